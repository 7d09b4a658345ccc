pub mod SomeLabels
