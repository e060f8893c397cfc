pub mod Faults
pub mod Words
pub mod Numerals
pub mod Grammar
pub mod Readings
pub mod Lines
