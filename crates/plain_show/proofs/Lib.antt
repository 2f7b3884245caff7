pub mod Places
pub mod Shorts
