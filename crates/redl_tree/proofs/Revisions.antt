-- Laws of labels and numbers.
pub mod LabelLaws
pub mod NumberLaws
