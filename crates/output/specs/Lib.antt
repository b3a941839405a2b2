pub mod Pour
pub mod Walks
pub mod WalkLaws
pub mod TurnLaws
pub mod LookLaws
pub mod NextLaws
pub mod MeetLaws
