pub mod TextRecordLaws
