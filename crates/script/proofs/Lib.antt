pub mod Complete
pub mod Cuts
pub mod Numerals
pub mod OneMeaning
pub mod Parts
