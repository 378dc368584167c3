pub mod SampleSheet
pub mod Worked
