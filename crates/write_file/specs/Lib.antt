pub mod NewFile
pub mod Write
pub mod Internal
