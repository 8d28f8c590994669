pub mod InsertLaws
pub mod PlaceLaws
pub mod AddedLaws
pub mod GrownLaws
pub mod KeepLaws
