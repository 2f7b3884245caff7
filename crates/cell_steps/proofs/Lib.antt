pub mod Taking
pub mod Staying
pub mod Keeping
pub use Rattle.cell_looks.proofs.cell_clocks_lemmas
pub use Rattle.cell_newborns.proofs as cell_newborns_lemmas
pub use Rattle.cell_looks.proofs.cell_states_lemmas
pub use Rattle.model_acts.proofs as model_acts_lemmas
pub use Rattle.page_store.proofs.model_kernel_lemmas
pub use Rattle.cell_plans.proofs as cell_plans_lemmas
