pub mod Ranges
pub mod Writing
pub mod RangeLaws
pub mod Readings
