mod Positions
mod Judged
mod Ones
