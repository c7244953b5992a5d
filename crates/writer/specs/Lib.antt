-- What a reader must believe of recordings written as text.
pub mod Writer
