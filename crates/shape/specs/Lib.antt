pub mod Ids
pub mod Nearness
pub mod Features
pub mod Moves
pub mod Sizes
pub mod Supports
pub mod Cylinders
pub mod Cuboids
