-- Laws that crates above cite: of lines, of what is written, that reading and writing undo each other; the sums of digits' values, the
-- numbers that digits say.
pub mod Sums
pub mod Numbers
pub mod Laws
pub mod Writing
pub mod Inverse
