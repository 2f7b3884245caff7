mod Ordered
mod Single
