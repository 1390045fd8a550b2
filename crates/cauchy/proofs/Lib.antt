pub mod Order
pub mod Paths
pub mod Segments
