pub mod Calls
pub mod Consistent
pub mod Contents
pub mod Model
pub mod Space
pub mod Demand
pub mod Example
