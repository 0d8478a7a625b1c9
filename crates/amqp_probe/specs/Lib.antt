pub mod Answer
pub mod Codec
pub mod Lines
pub mod Pieces
pub mod Transcript
pub mod Why
