-- Lipton's reduction on recordings: where a recording does not go wrong, exchanges lead to its serial order.
-- Run: the rules over states of functions, which keep proofs short. Sort: sorting by exchanges. Steps: laws of one step of a run. Dependent:
-- what dependent frames have in common. Order: keys are in order along dependence. Serial: the serial order. Commits: the
-- commit of a unit is one of its frames. Units: the same as a walk that
-- emits each unit at its commit. Alike: which lock guards an access changes no key.
pub mod Run
pub mod Sort
pub mod Steps
pub mod Dependent
pub mod Order
pub mod Serial
pub mod Commits
pub mod Units
pub mod Alike
