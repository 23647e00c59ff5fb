pub mod ByteLaws
pub mod StoreLaws
pub mod SignLaws
pub mod ChoiceLaws
