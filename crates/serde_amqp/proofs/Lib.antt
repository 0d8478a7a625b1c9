pub mod Whole
pub mod OverSource
pub mod IntoSink
