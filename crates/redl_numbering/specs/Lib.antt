pub mod Nums
pub mod Known
pub mod Counts
pub mod NumberTexts
pub mod Inside
