pub mod Take
pub mod Outcome
pub mod Allocate
pub mod Internal
