-- What the contracts speak of: bytes, fields, lists of records, and the refusals of fields.
pub mod Bytes
pub mod Fields
pub mod Records
pub mod Refusals
