-- What a reader must believe of answers in words. How long they can be is proved in crate report.
pub mod Explain
