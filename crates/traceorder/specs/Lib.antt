-- What a reader must believe of equality and the serial order as C programs see them.
pub mod Answers
