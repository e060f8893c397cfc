pub mod Azimuth
pub mod Cases
pub mod Cuboids
pub mod ExactCorners
pub mod Ids
pub mod Moves
pub mod Near
pub mod Turns
