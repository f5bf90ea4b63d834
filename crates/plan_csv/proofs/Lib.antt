pub mod WrittenNumbers
pub mod WrittenRows
mod Told
mod Refusals
mod PlateRows
mod RowsBefore
mod AcceptedRows
mod OwnRows
mod GrownTree
mod RowsInRange
pub mod ShortTexts
pub mod AddedUp
pub mod ReadAgain
mod FieldsInRange
mod RowsGrown
mod RowsAccepted
pub mod TreesInRange
mod AllowedRows
mod CheckFacts
mod GrownPieces
mod GrownRows
mod NodeFacts
mod NodeSteps
mod RowSteps
