pub mod Admissions
pub mod Left
pub mod SaysLaws
pub mod Consistency
mod BarRows
