pub mod State
pub mod Texts
pub mod Law
pub mod Appending
pub mod Wholes
pub mod Passes
pub mod ManyTexts
pub mod Describing
