pub mod SetLength
pub mod Internal
