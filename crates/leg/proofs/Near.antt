-- How near the leg in whole numbers is to the exact leg, and how the exact burn goes with the mass.
mod Drag
mod Thrust
mod Flow
mod Slope
mod Burn
mod Gain
pub use Burn.{burn_near}
pub use Gain.{burn_rises, burn_gains}
