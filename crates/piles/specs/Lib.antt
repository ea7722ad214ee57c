pub mod Laws
pub mod Combined
pub mod Flagged
pub mod Filing
pub mod Combine
pub mod Calls
pub mod Codecs
pub mod Faithful
