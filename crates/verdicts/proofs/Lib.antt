pub mod Inferred
pub mod Published
pub mod Questions
pub mod Rule
pub mod Verdict
