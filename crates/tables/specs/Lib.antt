pub mod OneRow
pub mod Tables
