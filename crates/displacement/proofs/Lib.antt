-- Numbers: a displacement fits 32 bits. Moved: what is written of places. Places: the places of a recording in another order. Sorted: in the
-- order by commits.
pub mod Numbers
pub mod Moved
pub mod Places
pub mod Sorted
