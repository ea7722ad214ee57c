pub mod Pieces
pub mod Plurals
pub mod Words
pub mod Lines
pub mod Trials
pub mod Reports
pub mod Tallies
pub mod Pastes
