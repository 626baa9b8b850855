pub mod Tries
pub mod WorkMatrix
pub mod Visits
pub mod Searches
