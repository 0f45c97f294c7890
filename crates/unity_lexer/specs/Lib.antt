pub mod Pairs
pub mod Pieces
pub mod ReservedShapes
pub mod Scans
pub mod Symbols
pub mod Tokens
pub mod Windows
