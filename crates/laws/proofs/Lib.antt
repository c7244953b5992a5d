-- Laws that crates above cite. Logic: tests and numbers. Lists: entries and fronts of lists. Written: a buffer that is written from its
-- front.
pub mod Logic
pub mod Lists
pub mod Written
