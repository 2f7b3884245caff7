pub mod Worlds
pub mod Rounds
