pub mod Records
pub use Rattle.kernel_record_facts.proofs.blob_grammar_lemmas
