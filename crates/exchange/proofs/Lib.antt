-- Laws that crates above cite: Exchange, of exchanges over any elements; Pull, that pulling elements out decides them; Independent, of
-- independent frames; Frames, of the frames of a sound recording; Sound, that exchanges keep a recording sound.
pub mod Exchange
pub mod Pull
pub mod Independent
pub mod Frames
pub mod Sound
pub mod Match
