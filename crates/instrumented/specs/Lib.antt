-- What a reader must believe of the rules: Rules, the step; Held, the locks that a thread holds.
pub mod Held
pub mod Rules
