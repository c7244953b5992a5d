-- That inferred guards find a recording reducible exactly if some choice of locks does: Bits, sets of locks as numbers; Choice, the claims.
-- That soundness and the verdict are those of the rules of the figures: Acts, the claim of one frame; Counts, how often locks are held;
-- Store, the store of a state; Marks, the marks of a violation; Told, one frame; Figures, the claims; OneVerdict, that the rules fix the
-- verdict.
pub mod Bits
pub mod Choice
pub mod Acts
pub mod Counts
pub mod Store
pub mod Marks
pub mod Told
pub mod Figures
pub mod OneVerdict
