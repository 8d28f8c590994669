pub mod Place
pub mod Internal
