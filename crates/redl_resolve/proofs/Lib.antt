pub mod ChainLaws
pub mod IdleLaws
pub mod PassLaws
pub mod KeepsLaws
mod PackageRows
mod LeafLaws
