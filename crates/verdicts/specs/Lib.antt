pub mod Published
pub mod Rule
pub mod Verdict
