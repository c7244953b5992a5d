-- Laws of the lines of a text, and of tables of lines, which crates above cite.
mod Lines
pub mod Tables
