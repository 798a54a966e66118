pub mod Comments
pub mod Threads
pub mod Firsts
pub mod Inside
