pub mod CallLemmas
pub mod ControlLemmas
pub mod BirthLemmas
pub mod MapLemmas
pub use Rattle.data_atlas.proofs.data_atlas_facts_lemmas
pub use Rattle.act_invoke.proofs.model_act_facts_lemmas
pub use Rattle.act_invoke.proofs.model_acts_lemmas
pub use Rattle.act_invoke.proofs.model_kernel_lemmas
