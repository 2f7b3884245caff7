pub mod Counts
pub use Rattle.edge_disk.specs as edge_disk
