pub mod Verdicts
pub mod JudgedRuns
