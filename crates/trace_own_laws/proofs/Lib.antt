pub mod Lasting
pub mod Feeds
