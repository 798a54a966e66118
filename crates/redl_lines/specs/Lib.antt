pub mod Status
pub mod Failures
pub mod Causes
pub mod Refused
pub mod Remarks
pub mod Lines
pub mod Ends
