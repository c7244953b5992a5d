-- What a reader must believe of replies.
pub mod Reply
