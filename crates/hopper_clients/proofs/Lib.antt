pub mod Carried
pub mod Fresh
pub mod Keeping
pub mod Reading
pub mod Parting
pub mod Accepting
