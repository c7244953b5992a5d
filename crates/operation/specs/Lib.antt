-- What a reader must believe of operations.
pub mod Operation
