pub mod Staying
pub use Rattle.act_atlas_laws.proofs as act_atlas_laws_lemmas
pub use Rattle.act_atlas_laws.proofs.act_calls_lemmas
pub use Rattle.model_births.proofs as model_births_lemmas
pub use Rattle.model_births.proofs.model_sound_runs_lemmas
