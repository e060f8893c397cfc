pub mod Answers
pub mod Solids
pub mod Sessions
pub mod Texts
