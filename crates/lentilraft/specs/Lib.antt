pub mod SoundTest
pub mod Door
pub mod Report
pub mod Refusal
pub mod EntryGiven
