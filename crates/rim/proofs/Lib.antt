pub mod OneGiven
