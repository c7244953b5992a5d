-- What a reader must believe of the functions that C programs call.
pub mod Trace
