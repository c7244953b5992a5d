-- The third term.
mod Demand
mod Moves
