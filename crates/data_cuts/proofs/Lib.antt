pub use Rattle.data_cut_facts.proofs as data_cut_facts_lemmas
pub use Rattle.model_cut_laws.proofs as model_cut_laws_lemmas
pub use Rattle.model_cut_laws.proofs.model_kernel_lemmas
