-- Laws of the digits that stand first on a line.
pub mod Laws
