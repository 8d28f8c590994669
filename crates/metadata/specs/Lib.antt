pub mod Fat
pub mod Marks
pub mod Usable
pub mod Free
pub mod Cluster
pub mod Internal
