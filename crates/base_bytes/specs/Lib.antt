pub mod Fields
pub mod Blobs
