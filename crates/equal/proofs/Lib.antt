-- That equality is what exchanges make of it: Exchanges, the claims; Lasts, the last places; Walk, the turns of the loop.
pub mod Exchanges
pub mod Lasts
pub mod Walk
mod Sides
