pub mod Laws
pub mod Makes
pub mod Arrays
pub mod Ends
pub mod Grid
