mod Printable
mod Named
mod Called
mod Marks
pub mod Kept
