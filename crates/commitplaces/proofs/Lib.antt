-- Turns: the loop of `write_commits`.
mod Turns
