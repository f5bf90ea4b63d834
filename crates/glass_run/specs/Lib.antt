pub mod Commands
pub mod Headlines
pub mod SheetHeadlines
pub mod FreezeHeadlines
pub mod inner
