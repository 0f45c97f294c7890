-- What a document has that was read from a text.
pub mod Counts
pub mod Literals
pub mod Numerals
pub mod Places
pub mod Reading
pub mod Tokens
pub mod Version
