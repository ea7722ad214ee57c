pub mod Counts
pub mod Rounds
pub mod Sizes
pub mod Tables
pub mod Trips
pub mod Turned
