pub mod Grammar
pub mod Names
pub mod Readings
pub mod Verbs
