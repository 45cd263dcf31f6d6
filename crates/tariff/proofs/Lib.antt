-- Lemmas by subject: tests that are computed, tables and searching them.
-- `TariffSound` puts them together; what a single function needs stands in its own folder.
pub mod Codes
pub mod Lengths
pub mod Lookup
pub mod Orderliness
pub mod Present
pub mod TariffSound
pub mod Tested
