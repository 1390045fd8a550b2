pub mod Words
pub mod Bridge
pub mod Table
pub mod Did
pub mod Chain
