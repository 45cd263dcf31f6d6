pub mod Adjusting
pub mod Appending
pub mod Bounds
pub mod Granting
pub mod Layering
pub mod Spans
pub mod Sums
pub mod Totals
