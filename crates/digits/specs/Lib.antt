-- What a reader must believe of digits and of lines of eight of them.
pub mod Digits
