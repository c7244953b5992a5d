-- What a reader must believe of the calls for commits.
pub mod UnitCommits
