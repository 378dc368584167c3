pub mod Phases
pub mod Requests
pub mod Configurations
pub mod Rules
pub mod Legs
pub mod Exact
pub mod Nearness
