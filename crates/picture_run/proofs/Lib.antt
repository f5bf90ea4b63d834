mod Drawn
mod PictureHeadline
