pub mod Joins
pub mod Slots
pub mod Runs
