mod Pages
mod Paged
pub mod Stored
pub mod Lists
