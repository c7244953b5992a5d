-- What a reader must believe of exchanges. Their laws are in proofs/.
pub mod Independent
pub mod Exchange
pub mod Pull
pub mod Found
