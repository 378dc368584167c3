pub mod Bounds
pub mod Answered
pub mod Near
