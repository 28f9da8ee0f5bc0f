pub mod RecordView
pub mod Unread
pub mod ReaderView
