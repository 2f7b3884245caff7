pub mod Formed
pub mod FewBlocks
pub use Rattle.cell_blobs.proofs as cell_blobs_lemmas
