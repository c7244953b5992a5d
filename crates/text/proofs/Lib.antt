-- Laws of texts that crates above cite.
pub mod Laws
pub mod Front
