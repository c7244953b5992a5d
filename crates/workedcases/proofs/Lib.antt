-- Every row holds, by computation.
pub mod Cases
