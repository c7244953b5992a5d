-- What a reader must believe of the comparison: Equal, what it answers, and the claims. What its steps do is said in crate matching.
pub mod Equal
