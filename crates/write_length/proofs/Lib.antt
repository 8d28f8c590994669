pub mod SetLengthLaws
pub mod KeepLaws
