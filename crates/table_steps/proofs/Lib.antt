pub mod Planning
pub mod FacingLook
pub mod Short
pub use Rattle.table_laws.proofs.cell_blob_laws_lemmas
pub use Rattle.table_laws.proofs.cell_blobs_lemmas
pub use Rattle.table_laws.proofs.model_sound_runs_lemmas
pub use Rattle.table_laws.proofs.model_sound_states_lemmas
pub use Rattle.table_laws.proofs.plain_states_lemmas
pub use Rattle.table_laws.proofs as table_laws_lemmas
