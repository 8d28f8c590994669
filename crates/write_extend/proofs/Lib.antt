pub mod EnoughLaws
pub mod ExtendLaws
pub mod LongerLaws
pub mod KeepLaws
