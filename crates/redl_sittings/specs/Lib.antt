pub mod SecondNumbers
pub mod JoinedBooks
pub mod Inside
