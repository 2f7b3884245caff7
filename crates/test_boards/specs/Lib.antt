pub mod Caused
