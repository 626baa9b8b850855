pub mod Answer
pub mod Sets
pub mod Text
pub mod Decimal
pub mod Filling
pub mod Lines
pub mod Pieces
