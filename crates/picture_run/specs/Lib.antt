pub mod Pictures
pub mod PictureHeadlines
