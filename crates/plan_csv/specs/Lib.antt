pub mod Solutions
pub mod PlanRows
pub mod PlanTexts
pub mod inner
