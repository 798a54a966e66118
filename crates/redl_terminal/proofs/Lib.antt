pub mod MaskLaws
mod Rows
