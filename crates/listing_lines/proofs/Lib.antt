pub mod RoomLaws
pub mod NameLaws
