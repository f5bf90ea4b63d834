pub mod Accepting
pub mod CheckedBehind
pub mod RaisedBounds
pub mod RightTexts
pub mod Statuses
