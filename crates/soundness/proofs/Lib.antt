-- Laws of soundness that crates above cite.
pub mod Laws
