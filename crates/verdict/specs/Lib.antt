-- What a reader must believe of the verdicts.
pub mod Verdict
