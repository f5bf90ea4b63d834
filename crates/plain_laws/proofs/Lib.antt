mod Examples
mod Plain
