-- The second term over what is handed in, as types. Their proofs are in proofs/.
pub mod VerdictLaws
