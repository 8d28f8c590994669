pub mod Directory
pub mod Entries
pub mod Room
pub mod Open
pub mod Internal
