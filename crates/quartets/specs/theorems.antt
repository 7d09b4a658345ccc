pub mod AllMarksOne
