pub mod Bytes
pub mod Digits
