pub mod Searches
pub mod Reaches
pub mod Verdicts
pub mod Spots
