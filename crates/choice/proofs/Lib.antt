pub mod ChoiceLaws
pub mod FirstLaws
