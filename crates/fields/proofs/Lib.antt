-- Laws of the values of a line's digits.
pub mod Values
