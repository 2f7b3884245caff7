pub mod Committing
pub mod Counting
pub mod Dues
pub mod Enough
pub mod Fitting
pub mod Room
pub mod Running
pub mod RunsThrough
pub mod Settled
pub mod Settling
pub mod Stabling
pub mod Steadying
pub mod StepRoom
pub mod Through
pub mod Trying
pub mod Within
pub use Rattle.kernel_book_laws.proofs.kernel_block_laws_lemmas
pub use Rattle.kernel_book_laws.proofs as kernel_book_laws_lemmas
pub use Rattle.kernel_book_laws.proofs.kernel_laws_lemmas
pub use Rattle.kernel_book_laws.proofs.kernel_views_lemmas
pub use Rattle.image_facts.proofs.model_kernel_lemmas
pub use Rattle.model_serial_turns.proofs.model_serial_lemmas
pub use Rattle.model_serial_turns.proofs as model_serial_turns_lemmas
pub use Rattle.table_steps.proofs.table_laws_lemmas
