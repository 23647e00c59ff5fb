pub mod RowsTest
