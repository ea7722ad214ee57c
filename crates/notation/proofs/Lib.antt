pub mod Scans
pub mod Written
pub mod Hexes
pub mod OctetsBack
pub mod Runs
pub mod Backs
pub mod Covers
