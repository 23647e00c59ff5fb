-- Theorems on messages between two links.
pub mod Accepted
pub mod SmallBodies
pub mod Received
pub mod Read
pub mod Delivered
pub mod Conversation
pub mod ZeroSent
