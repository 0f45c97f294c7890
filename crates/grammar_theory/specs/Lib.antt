pub mod Answers
pub mod Ebnf
pub mod Laws
pub mod Lists
pub mod LookAhead
pub mod Outcomes
pub mod Reader
pub mod Words
