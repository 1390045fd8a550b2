pub mod Words
pub mod Reading
pub mod Floats
pub mod Saving
