pub mod Outcome
pub mod Refresh
pub mod Internal
