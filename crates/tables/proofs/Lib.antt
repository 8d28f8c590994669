pub mod Cases
pub mod CountLaws
pub mod ListLaws
pub mod TableLaws
pub mod Chains
