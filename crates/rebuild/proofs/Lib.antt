pub mod Pasted
pub mod Reread
pub mod Built
pub mod Recorded
