pub mod HistoryView
pub mod Messages
pub mod Noted
pub mod Text
pub mod Words
pub mod Written
