pub mod Path
pub mod Boundary
pub mod Shown
pub mod Bounds
pub mod Pieces
