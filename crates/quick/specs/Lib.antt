-- What a reader must believe of the quick check: nothing but `check_reply` of crate soundness, which it answers. The rest is between its functions.
pub mod Quick
