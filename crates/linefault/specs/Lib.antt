-- What a reader must believe of faulty lines in words.
pub mod LineFault
