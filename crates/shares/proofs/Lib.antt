pub mod Verdicts
pub mod Filling
pub mod SharedOut
