-- The start values of programs.
pub mod ShownStarts
pub mod StartSlots
pub mod StartTables
pub mod StartValues
pub mod Starts
