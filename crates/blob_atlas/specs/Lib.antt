pub mod Edges
pub use Rattle.blob_reading.specs.act_calls
pub use Rattle.blob_reading.specs as blob_reading
