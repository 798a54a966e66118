mod Rows
pub mod FirstLaws
pub mod ThreadLaws
pub mod ItemLaws
