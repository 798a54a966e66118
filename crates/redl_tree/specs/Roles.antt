-- Places in a document, and the role that an element has there.
pub mod Names
pub mod Words
pub mod Places
pub mod Arounds
pub mod Lists
pub mod Sites
pub mod Kinds
pub mod Idle
