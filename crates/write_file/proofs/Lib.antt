pub mod NewFileLaws
pub mod WriteLaws
pub mod KeepLaws
