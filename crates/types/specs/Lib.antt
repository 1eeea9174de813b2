pub mod Sizes
pub mod Answers
pub mod Nodes
pub mod Kinds
pub mod Outcomes
