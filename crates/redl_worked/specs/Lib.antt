pub mod Functions
pub mod Signs
pub mod Calls
