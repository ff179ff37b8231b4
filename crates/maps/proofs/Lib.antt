pub mod Computed
pub mod Empty
pub mod Rows
pub mod Sheets
