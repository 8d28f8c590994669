pub mod Fields
pub mod Name
pub mod Stamps
pub mod Put
pub mod New
pub mod Sound
