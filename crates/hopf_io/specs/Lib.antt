pub mod Faults
pub mod Memory
pub mod Prefixes
pub mod Steady
