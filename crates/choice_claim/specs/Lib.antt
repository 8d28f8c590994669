pub mod Picked
pub mod Adds
pub mod Extends
