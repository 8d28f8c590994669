pub mod Shrink
pub mod Internal
