-- What only the bodies of this crate need.
pub mod Reading
pub mod Writing
pub mod Held
pub mod Auditing
pub mod Ended
pub mod NoticeText
pub mod Phrase
pub mod Live
pub mod Resume
