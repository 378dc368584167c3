pub mod Linear
pub mod Laws
mod Meaning
