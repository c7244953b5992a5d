-- What a reader must believe of what is wrong with a line.
pub mod Fault
