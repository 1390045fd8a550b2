pub mod Floats
pub mod Folds
pub mod Laws
pub mod Sizes
