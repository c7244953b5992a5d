-- Laws of the verdicts.
pub mod Laws
