pub mod Committable
pub mod Keeping
pub use Rattle.kernel_views.proofs.kernel_block_laws_lemmas
pub use Rattle.kernel_views.proofs.kernel_laws_lemmas
pub use Rattle.kernel_views.proofs.kernel_records_lemmas
pub use Rattle.kernel_views.proofs as kernel_views_lemmas
pub use Rattle.kernel_views.proofs.store_books_lemmas
