-- What is kept stays marked, in properties too.
pub mod Lists
pub mod Below
pub mod Names
pub mod Elements
pub mod Properties
pub mod Walk
