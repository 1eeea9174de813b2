pub mod Bytes
pub mod Rules
pub mod Seek
pub mod Tables
pub mod Tests
