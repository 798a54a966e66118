pub mod Values
pub mod References
pub mod Order
pub mod Borrowed
pub mod Inside
