mod Prefixes
mod Counts
mod Flags
mod Told
