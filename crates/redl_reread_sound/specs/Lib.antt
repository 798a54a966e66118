pub mod Together
pub mod Each
pub mod Scopes
pub mod Again
