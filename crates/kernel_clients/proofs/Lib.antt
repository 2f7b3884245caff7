mod Turns
mod Finding
