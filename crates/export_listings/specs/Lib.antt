pub mod ExportedMistakes
pub mod MistakeExports
