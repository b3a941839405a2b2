pub mod ExportedIndexes
pub mod IndexExports
