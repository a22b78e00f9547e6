pub mod Desk
pub mod DeskText
