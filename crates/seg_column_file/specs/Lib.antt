pub mod ColumnFiles
pub mod ColumnTable
pub mod EmptyColumnFile
pub mod Footers
pub mod KeptRows
pub mod RowOrders
