pub mod Runs
pub mod Lowest
pub mod Chains
