pub mod Nameless
