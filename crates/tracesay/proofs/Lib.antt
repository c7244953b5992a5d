-- A text that stands whole in a buffer of its own.
mod Laws
