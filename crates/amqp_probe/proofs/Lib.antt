pub mod Cuts
pub mod Faults
pub mod Pieces
pub mod Split
pub mod Transcripts
pub mod Writes
pub mod Recoding
