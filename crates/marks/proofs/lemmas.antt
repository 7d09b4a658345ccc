pub mod MarkOutcomes
