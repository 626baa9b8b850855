pub mod AngleRecord
pub mod Inferred
pub mod Patterns
