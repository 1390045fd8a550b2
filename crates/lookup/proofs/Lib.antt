pub mod Entries
pub mod Saving
