-- What a reader must believe of what the functions for C programs share.
pub mod Answer
