pub mod Sizes
pub mod Allocator
pub mod Words
pub mod Opening
pub mod Pointers
