pub mod Fronts
pub mod Spelling
pub mod Forms
pub mod Reader
