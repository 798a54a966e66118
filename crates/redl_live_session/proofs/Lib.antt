pub mod TurnLaws
pub mod LiveLaws
pub mod EachLaws
