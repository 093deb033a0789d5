pub mod ChoiceLaws
pub mod Choosing
pub mod EditLaws
pub mod Entries
pub mod Examples
pub mod GoingLaws
pub mod LookLaws
pub mod ShownLaws
