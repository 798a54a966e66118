pub mod ChainLaws
pub mod EndLaws
pub mod PropsLaws
