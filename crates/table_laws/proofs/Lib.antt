pub mod Untouched
pub mod Lent
pub mod Having
pub mod Going
pub mod PartKinds
pub mod Founding
pub mod Entered
pub mod Kept
pub mod Quiet
pub mod WordsApart
pub mod Blocks
pub mod Looked
pub mod Told
pub mod LookDone
pub mod Idling
pub mod Needs
pub mod Places
pub mod Spawned
pub mod Facing
pub mod FacingAtlas
pub mod Barren
pub mod Pairs
pub mod Triples
pub use Rattle.cell_blob_laws.proofs as cell_blob_laws_lemmas
pub use Rattle.cell_blob_laws.proofs.cell_blobs_lemmas
pub use Rattle.cell_step_laws.proofs as cell_step_laws_lemmas
pub use Rattle.model_sound_states.proofs.model_sound_runs_lemmas
pub use Rattle.model_sound_states.proofs as model_sound_states_lemmas
pub use Rattle.cell_step_laws.proofs.plain_states_lemmas
pub use Rattle.cell_steps.proofs.cell_plans_lemmas
