pub mod Codes
pub mod Answers
pub mod Texts
pub mod Forms
pub mod Runs
pub mod Deliveries
pub mod Exits
