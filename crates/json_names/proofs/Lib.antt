pub mod Along
pub mod CircleTexts
pub mod Unread
