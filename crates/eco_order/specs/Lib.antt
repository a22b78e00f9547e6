pub mod Broken
pub mod Deciding
pub mod DrivenOnce
pub mod Insert
pub mod Inserting
pub mod Laws
pub mod Rules
