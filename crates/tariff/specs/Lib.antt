-- What the tariff promises. Callers cite `Month`, and for codes and parents by themselves `Pages` and `Groups`.
-- To read: `Calendar`, `Charges` with `Table`, `Groups`, `Pages`, then `Month`, which brings them together, and `Sound`.
pub mod Calendar
pub mod Charges
pub mod Groups
pub mod Month
pub mod Pages
pub mod Ranges
pub mod Sound
pub mod Table
