pub mod Gathers
pub mod Scatters
pub mod Encodes
