-- Laws of the judging pass. Fused: the one pass of the code replies as check, then judge. Turn: one turn of its loop. Open: the first open
-- begin. Judgement: laws of the whole. Places: the places of its reply.
pub mod Fused
pub mod Turn
pub mod Open
pub mod Judgement
pub mod Places
