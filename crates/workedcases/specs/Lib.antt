-- The cases of docs/FORMAT.md that are marked *, as rows of one list under one claim. The proof is in proofs/Cases.
pub mod Cases
