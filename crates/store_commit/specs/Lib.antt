pub mod Storing
pub mod Agreed
pub mod Ready
pub mod BlobBytes
