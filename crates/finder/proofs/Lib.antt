pub mod Below
pub mod Tries
pub mod BranchTable
pub mod WorkMatrix
pub mod Visits
pub mod Rounds
pub mod Searches
