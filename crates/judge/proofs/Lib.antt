-- Laws of the judgement that crates above cite.
pub mod Laws
pub mod Held
