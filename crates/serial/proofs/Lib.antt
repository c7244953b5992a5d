-- Units: a unit frame by frame.
pub mod Units
