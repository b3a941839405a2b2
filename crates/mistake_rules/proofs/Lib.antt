pub mod OutcomeLaws
pub mod CompleteLaws
pub mod SoundLaws
pub mod FitLaws
