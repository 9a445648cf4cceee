pub mod FilePieces
mod Judging
pub mod Judgements
