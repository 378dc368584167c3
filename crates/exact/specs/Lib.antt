pub mod Rational
pub mod Meaning
