pub mod Same
pub mod FileRows
pub mod Agree
pub mod ReadRows
