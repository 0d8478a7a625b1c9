pub mod Headline
pub mod Streams
