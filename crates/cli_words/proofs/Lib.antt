pub mod Decimals
pub mod Asking
