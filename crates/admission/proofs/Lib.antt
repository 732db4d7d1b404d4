-- Laws of the rows, group by group.
pub mod Rows
