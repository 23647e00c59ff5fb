-- Theorems on two links.
pub mod SumLaws
pub mod Words
pub mod RoundTrip
pub mod SentReceived
pub mod StepAlike
pub mod KeepAlive
pub mod KeptAlive
pub mod Pids
pub mod NoncePasses
pub mod Opening
pub mod SetUps
pub mod InTurn
pub mod CallsInTurn
pub mod PingAnswered
pub mod NonceBack
