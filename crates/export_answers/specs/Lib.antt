pub mod Exported
pub mod Determined
pub mod Version
pub mod ExportLaws
