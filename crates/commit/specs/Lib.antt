-- What a reader must believe of a walk that looks for commits.
pub mod Commit
