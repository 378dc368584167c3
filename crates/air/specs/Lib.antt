pub mod Day
pub mod Between
pub mod Standard
pub mod Days
pub mod Laws
pub mod BetweenLemmas
pub mod Entries
