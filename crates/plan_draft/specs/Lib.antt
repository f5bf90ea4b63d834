pub mod Drafts
pub mod inner
