-- What the code's readings are in the terms of the documents.
pub mod CursorReadings
