pub mod Spelling
pub use Rattle.node_store.proofs as node_store_lemmas
pub use Rattle.node_records.proofs as node_records_lemmas
pub use Rattle.kernel_records.proofs as kernel_records_lemmas
pub use Rattle.kernel_records.proofs.kernel_record_facts_lemmas
