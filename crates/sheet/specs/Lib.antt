pub mod Sheets
pub mod Verdicts
pub mod Timetables
pub mod Held
pub mod Tellings
