pub mod Cutting
pub mod Staying
pub mod Marking
pub mod Leaving
pub mod Opened
pub mod Stretches
pub mod Pages
pub mod Telling
pub mod Apart
pub mod Growing
pub use Rattle.store_books.proofs.image_meaning_lemmas
pub use Rattle.store_books.proofs.model_cut_laws_lemmas
pub use Rattle.model_sound_states.proofs.model_kernel_lemmas
pub use Rattle.model_sound_states.proofs.model_run_laws_lemmas
pub use Rattle.model_sound_states.proofs.model_sound_runs_lemmas
pub use Rattle.model_sound_states.proofs as model_sound_states_lemmas
pub use Rattle.store_books.proofs as store_books_lemmas
pub use Rattle.store_told.proofs as store_told_lemmas
