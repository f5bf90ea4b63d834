pub mod WidthRows
