pub mod Part
pub mod Read
pub mod ReadBack
pub mod Internal
