-- Laws of written text, which crates above cite.
pub mod Laws
