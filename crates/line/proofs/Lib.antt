-- Laws of verdict lines that crates above cite.
pub mod Laws
pub mod Exact
