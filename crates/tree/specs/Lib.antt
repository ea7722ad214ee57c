pub mod Laws
pub mod Number
pub mod Printed
pub mod Smod
pub mod Steps
pub mod Written
