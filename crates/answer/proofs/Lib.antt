-- Laws of what the functions for C programs share.
mod Laws
pub mod Front
pub mod Fit
