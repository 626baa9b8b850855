pub mod Pieces
pub mod Words
pub mod JobText
pub mod Shown
pub mod Placed
pub mod Views
