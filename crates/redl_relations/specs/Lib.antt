pub mod Values
pub mod Names
pub mod Relations
pub mod Leads
pub mod Inside
