pub mod AllocateLaws
pub mod GrowLaws
pub mod Links
pub mod TakeLaws
pub mod Taking
pub mod KeepLaws
