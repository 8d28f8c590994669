pub mod NameLaws
pub mod SoundLaws
pub mod LengthLaws
pub mod PutLaws
pub mod NewLaws
pub mod SetLaws
