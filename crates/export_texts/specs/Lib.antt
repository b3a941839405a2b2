pub mod ExportedVerdicts
pub mod ExportedTexts
pub mod VerdictExports
pub mod TextExportLaws
