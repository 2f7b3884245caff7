pub mod Coming
pub mod Behind
pub mod Telling
pub mod Pairing
pub mod Placing
pub mod Stages
