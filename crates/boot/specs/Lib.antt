pub mod Geometry
pub mod Limits
pub mod Layout
pub mod Causes
pub mod Internal
