pub mod OpenLaws
pub mod RefreshLaws
pub mod CallLaws
pub mod KeepLaws
