-- Why calls are turned down: the numbers of causes and layers, keys, and what a fault tells.
pub mod Causes
pub mod Keys
pub mod Faults
pub mod Texts
