pub mod DocumentLaws
pub mod KeyTurnLaws
