pub mod Bounded
pub mod Claims
pub mod Readable
pub mod Tables
pub mod Walking
