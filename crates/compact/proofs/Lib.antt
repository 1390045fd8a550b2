pub mod Columns
pub mod Laws
pub mod Mirror
pub mod Models
pub mod Ring
