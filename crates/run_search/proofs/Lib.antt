pub mod StoredTexts
pub mod Searched
pub mod Told
pub mod Resumed
pub mod FoundBehind
pub mod FrozenTexts
pub mod Known
pub mod Within
