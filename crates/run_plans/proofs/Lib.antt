pub mod Refusals
pub mod Judged
pub mod Sheeted
pub mod Statuses
