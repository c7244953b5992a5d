-- What is asked of the table of commits. The proofs are in proofs/.
pub mod CommitLaws
