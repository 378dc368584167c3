mod Exists
mod Worked
