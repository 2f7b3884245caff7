pub mod Counting
mod RunSoFar
pub use Rattle.edge_disk.proofs as edge_disk_lemmas
