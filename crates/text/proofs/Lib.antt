pub mod Cuts
pub mod Every
pub mod Written
