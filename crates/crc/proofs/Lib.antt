pub mod Xor
pub mod Register
pub mod Feeding
pub mod Joining
pub mod TableTest
pub mod CheckValues
