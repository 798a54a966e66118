pub mod Signs
pub mod Walks
pub mod Clauses
pub mod Inside
