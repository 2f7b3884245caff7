pub mod Begun
pub mod Births
pub mod BirthsKept
pub mod Kept
pub mod LookMade
pub mod Opened
pub mod Paired
pub mod StableOwed
pub mod Bearing
pub mod Stepping
pub use Rattle.table_births.proofs.act_atlas_laws_lemmas
pub use Rattle.kernel_commits.proofs.kernel_block_laws_lemmas
pub use Rattle.kernel_commits.proofs.kernel_book_laws_lemmas
pub use Rattle.kernel_commits.proofs.kernel_commit_facts_lemmas
pub use Rattle.kernel_commits.proofs as kernel_commits_lemmas
pub use Rattle.kernel_commits.proofs.kernel_laws_lemmas
pub use Rattle.kernel_commits.proofs.kernel_views_lemmas
pub use Rattle.kernel_commits.proofs.model_serial_lemmas
pub use Rattle.kernel_commits.proofs.model_serial_turns_lemmas
pub use Rattle.table_births.proofs.model_sound_runs_lemmas
pub use Rattle.table_births.proofs as table_births_lemmas
pub use Rattle.table_births.proofs.table_laws_lemmas
