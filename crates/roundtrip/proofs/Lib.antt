-- The theorems: of recordings, and of verdict lines.
pub mod Recordings
pub mod Lines
