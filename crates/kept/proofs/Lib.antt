pub mod BitmapKeeps
pub mod IntactKeeps
pub mod OuterKeeps
pub mod RegionLaws
pub mod TwinKeeps
