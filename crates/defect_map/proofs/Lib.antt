pub mod Clear
mod ColumnLemmas
