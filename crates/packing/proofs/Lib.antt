pub mod Fields
pub mod Widths
pub mod Counts
pub mod Readings
pub mod Stands
pub mod Packings
pub mod Trips
