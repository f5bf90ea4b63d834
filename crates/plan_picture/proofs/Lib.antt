pub mod Drawn
pub mod Finished
pub mod ItemCounts
pub mod PlatesBegun
pub mod Sorts
pub mod Stacks
pub mod ToldLemmas
pub mod TrueWords
