pub mod InlineTableLaws
