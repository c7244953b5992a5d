-- Laws of the calls for the serial order, and of a reply that something is written.
pub mod Laws
