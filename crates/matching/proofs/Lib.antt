-- Passing: the loop of `find`.
mod Passing
