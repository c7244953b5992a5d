-- What a reader must believe of the comparison's steps: Places, where a thread's next frame stands, and the last places matched.
pub mod Places
