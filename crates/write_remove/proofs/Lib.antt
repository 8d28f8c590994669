pub mod RemoveLaws
pub mod KeepLaws
