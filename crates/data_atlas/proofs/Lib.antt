pub use Rattle.data_atlas_facts.proofs as data_atlas_facts_lemmas
pub use Rattle.data_atlas_facts.proofs.model_circles_lemmas
