pub mod Said
pub mod Checks
pub mod FrozenChecks
pub mod RightTexts
pub mod inner
