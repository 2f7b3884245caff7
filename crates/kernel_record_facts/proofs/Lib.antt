pub mod Settled
pub mod Telling
pub use Rattle.cell_blobs.proofs.blob_facts_lemmas
pub use Rattle.cell_blobs.proofs.blob_grammar_lemmas
