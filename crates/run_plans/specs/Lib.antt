pub mod Instances
pub mod Drafts
pub mod Judgements
pub mod Verdicts
pub mod Breaches
pub mod Sheets
pub mod Replays
