pub mod Answer
pub mod Refusals
pub mod Message
pub mod Text
pub mod Pieces
