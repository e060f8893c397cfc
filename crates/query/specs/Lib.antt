pub mod Data
pub mod Bounds
pub mod Contacts
pub mod Clips
pub mod Edges
pub mod Lines
pub mod Meeting
