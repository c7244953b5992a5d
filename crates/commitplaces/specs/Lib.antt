-- What a reader must believe of where units commit.
pub mod CommitPlaces
