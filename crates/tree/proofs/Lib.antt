pub mod Circle
pub mod Climbs
pub mod Laws
mod Lifts
mod Prints
pub mod Same
pub mod Smods
mod Spots
pub mod Trip
