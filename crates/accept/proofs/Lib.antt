pub mod Checks
pub mod Laws
pub mod Replying
pub mod Starting
