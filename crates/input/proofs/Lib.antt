pub mod Laws
pub mod NeverShort
