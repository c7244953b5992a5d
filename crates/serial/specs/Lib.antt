-- What a reader must believe of the serial order.
pub mod Order
pub mod Walk
