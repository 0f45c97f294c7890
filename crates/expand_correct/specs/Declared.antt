pub mod Agreement
pub mod WordLaws
pub mod SlotLaws
pub mod NameLaws
