pub mod NameLaws
pub mod BirthLaws
pub mod AtlasNames
pub mod ByKind
pub use Rattle.act_calls.proofs as act_calls_lemmas
pub use Rattle.act_calls.proofs.data_atlas_facts_lemmas
