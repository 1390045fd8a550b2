pub mod Text
pub mod Shown
