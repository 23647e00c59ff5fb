-- The laws that the proof of ask cites.
pub mod AskingLaws
