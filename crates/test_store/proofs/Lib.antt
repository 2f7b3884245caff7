mod Kept
mod Owned
