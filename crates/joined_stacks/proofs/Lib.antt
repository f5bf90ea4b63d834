mod Gathered
mod Mirrors
mod Copies
mod Courses
mod Plates
