-- What is asked of whole recordings, as types: Demand, the third term; Moves, displacements. Their proofs are in proofs/.
pub mod Demand
pub mod Moves
