-- The names as lines of one text.
mod Lines
