pub mod Ranges
pub mod Fields
pub mod Slots
pub mod Reading
pub mod Writing
pub mod Trips
