pub mod Chain
pub mod Stream
pub mod Listing
pub mod Bytes
pub mod Pieces
pub mod Internal
