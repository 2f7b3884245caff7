pub mod Spelling
pub mod Staying
pub mod Leaving
pub mod Rests
pub mod Faulting
pub mod Joining
pub mod Telling
pub mod Raising
pub mod Fewer
pub mod Newest
pub mod Freeing
pub mod ChosenNewest
pub use Rattle.cell_wish_laws.proofs as cell_wish_laws_lemmas
pub use Rattle.kernel_block_laws.proofs as kernel_block_laws_lemmas
pub use Rattle.kernel_record_facts.proofs as kernel_record_facts_lemmas
pub use Rattle.page_store.proofs.model_kernel_lemmas
pub use Rattle.cell_wish_laws.proofs.model_run_laws_lemmas
pub use Rattle.store_snapshots.proofs.store_commit_lemmas
pub use Rattle.store_snapshots.proofs.store_facts_lemmas
pub use Rattle.store_snapshots.proofs as store_snapshots_lemmas
