pub mod Cutting
pub mod ShrinkLaws
pub mod KeepLaws
