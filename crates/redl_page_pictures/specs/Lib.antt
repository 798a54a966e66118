pub mod Pictures
pub mod List
pub mod Inside
