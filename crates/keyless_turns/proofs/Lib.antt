pub mod KeylessLaws
