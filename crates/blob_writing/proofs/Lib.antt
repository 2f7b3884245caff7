pub mod Room
pub use Rattle.blob_facts.proofs as blob_facts_lemmas
