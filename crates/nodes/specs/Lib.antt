pub mod Bit
pub mod Lists
pub mod NodeSet
pub mod Options
pub mod Row
pub mod SetTable
