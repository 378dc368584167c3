pub mod Words
pub mod Forms
pub mod Texts
pub mod Sheets
