pub mod Volume
pub mod File
pub mod Trial
pub mod Table
pub mod ReadTable
