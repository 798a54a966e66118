pub mod NamedLaws
mod Rows
