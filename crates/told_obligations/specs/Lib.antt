pub mod Following
pub mod Laws
pub mod Listing
pub mod Origins
pub mod Places
