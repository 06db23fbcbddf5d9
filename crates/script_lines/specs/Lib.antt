pub mod LineReader
pub mod Lines
pub mod PartialFields
pub mod ReaderFields
pub mod ReaderView
pub mod Seen
