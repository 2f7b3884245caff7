pub mod Following
pub mod Words
pub mod Others
pub mod Flushing
pub mod Legal
pub mod Ordering
pub mod Leaving
pub mod Storing
pub mod Snapping
pub mod Trying
pub mod Behind
pub mod Stepping
pub mod Stopping
pub mod Fullness
pub use Rattle.table_laws.proofs.cell_blob_laws_lemmas
pub use Rattle.kernel_records.proofs.kernel_block_laws_lemmas
pub use Rattle.kernel_laws.proofs as kernel_laws_lemmas
pub use Rattle.kernel_records.proofs as kernel_records_lemmas
pub use Rattle.kernel_laws.proofs.store_books_lemmas
pub use Rattle.kernel_records.proofs.store_commit_lemmas
pub use Rattle.kernel_records.proofs.store_facts_lemmas
pub use Rattle.kernel_records.proofs.store_snapshots_lemmas
pub use Rattle.table_laws.proofs as table_laws_lemmas
