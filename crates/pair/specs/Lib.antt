-- What the theorems on two links speak of.
pub mod Awaits
pub mod Opens
pub mod KeepAlive
