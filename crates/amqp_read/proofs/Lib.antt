mod InPlace
mod Streams
pub mod Measured
pub mod RawData
