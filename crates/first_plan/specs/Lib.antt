pub mod FirstPlans
pub mod inner
