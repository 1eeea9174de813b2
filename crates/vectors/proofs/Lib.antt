pub mod Digits
pub mod Scanning
pub mod PastEnd
pub mod Sums
pub mod Seeds
pub mod Reading
