-- The claims about the rules, as types. Their proofs are in proofs/.
pub mod Choice
pub mod Figures
