pub mod Replays
pub mod Taken
