-- What the levels of a statement promise. To read: `Terms`, `Scopes`, `Questions`, then `Levels`.
pub mod Levels
pub mod Questions
pub mod Scopes
pub mod Terms
pub mod Workings
