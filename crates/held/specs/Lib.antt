pub mod Test
pub mod Words
