pub mod Extend
pub mod Internal
