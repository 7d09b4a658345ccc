pub mod LabelOrderLaws
