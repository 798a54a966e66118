pub mod NotedLaws
pub mod FindLaws
pub mod NameLaws
pub mod FrontLaws
pub mod AttributeLaws
pub mod NamingLaws
pub mod RowLaws
pub mod PieceLaws
pub mod BareLaws
pub mod AlikeLaws
pub mod UsualLaws
mod Worked
