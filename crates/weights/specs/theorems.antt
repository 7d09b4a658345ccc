pub mod BytesAsWords
