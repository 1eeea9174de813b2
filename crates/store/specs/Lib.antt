pub mod Content
pub mod Room
pub mod Taken
pub mod Written
pub mod Cut
pub mod Workable
