-- What a reader must believe of guard lists: Guards, what they say; Listed, which are accepted, and the claims.
pub mod Guards
pub mod Listed
pub mod Judgement
