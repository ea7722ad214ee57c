mod Spreads
mod Steps
mod Placing
pub mod Pasted
