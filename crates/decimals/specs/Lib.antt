-- Decimal numbers and lines of fields as bytes, and texts laid into a buffer.
pub mod Decimal
pub mod Fields
pub mod Laid
