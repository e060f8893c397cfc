pub mod Buffers
pub mod ClipMagnitude
pub mod ContactMagnitude
pub mod EricsonLaw
pub mod Numbers
