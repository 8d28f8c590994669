pub mod Outer
pub mod Copies
pub mod Kept
