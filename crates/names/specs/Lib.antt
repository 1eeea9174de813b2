pub mod Entries
pub mod Walks
pub mod Listing
pub mod Searching
pub mod Entering
pub mod Unlinking
pub mod Removing
pub mod Enterable
