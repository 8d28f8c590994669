pub mod Search
pub mod Internal
