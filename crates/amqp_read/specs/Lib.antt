pub mod Asking
pub mod Raw
pub mod Reading
pub mod Steps
pub mod Streaming
pub mod Texts
