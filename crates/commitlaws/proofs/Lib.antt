-- Entries: what the walk leaves in one entry of the table. CommitLaws: the claims.
mod Entries
mod CommitLaws
