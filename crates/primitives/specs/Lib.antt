pub mod Bits
pub mod Checksum
pub mod Splice
pub mod Words
pub mod Internal
