-- What a reader must believe: bytes and records, the table file, and the call that admits it.
pub mod Bytes
pub mod Answer
pub mod Reading
pub mod Records
pub mod TableFile
pub mod Admission
pub mod Meaning
pub mod TableBytes
