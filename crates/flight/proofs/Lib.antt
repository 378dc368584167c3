mod Step
mod Outcomes
mod Kept
mod Marks
mod Chains
mod Led
