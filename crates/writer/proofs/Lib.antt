-- Laws of lines written.
pub mod Lines
