pub mod Terms
pub mod Naming
pub mod Forms
pub mod Scripts
pub mod Laws
