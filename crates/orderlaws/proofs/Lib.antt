-- View: one frame of the pass is one step of the run that its state stands for. Recording: a reducible recording is such a run. Walk: the
-- code's walk is that of the run. Order: the serial order is the recording exchanged, and the walk gives it. Open: which begin is still open
-- at the end.
pub mod View
pub mod Recording
pub mod Walk
pub mod Order
pub mod Open
