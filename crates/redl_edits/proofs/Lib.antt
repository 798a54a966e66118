pub mod BesideLaws
pub mod DarkLaws
pub mod EdgeLaws
pub mod OrderLaws
pub mod PassedLaws
pub mod ReachLaws
pub mod RoundLaws
pub mod StackLaws
pub mod TableLaws
pub mod BoundLaws
pub mod LengthLaws
pub mod FormatLaws
pub mod LooseLaws
pub mod SaidLaws
pub mod SameLaws
pub mod FormattedLaws
mod Rows
