pub mod AddsLaws
pub mod KeptLaws
pub mod OrderLaws
pub mod PickedLaws
pub mod ExtendsLaws
