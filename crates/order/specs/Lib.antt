-- What a reader must believe of the calls that write the serial order.
pub mod Order
