pub mod AheadLaws
pub mod TakeLaws
pub mod ShowLaws
pub mod RoleLaws
