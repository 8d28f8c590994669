pub mod Stores
pub mod Frame
pub mod UnmarkedLaws
pub mod WindowLaws
pub mod RowLaws
pub mod View
pub mod Counting
pub mod Keeps
