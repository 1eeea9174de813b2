pub mod Scan
pub mod Sum
pub mod Seed
