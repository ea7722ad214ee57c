pub mod Reach
pub mod Seen
pub mod Walks
