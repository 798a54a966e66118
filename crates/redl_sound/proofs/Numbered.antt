pub mod Lists
pub mod Labelled
pub mod Mentions
pub mod Walk
pub mod Apart
pub mod Story
pub mod Package
