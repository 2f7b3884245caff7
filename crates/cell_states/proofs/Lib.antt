pub mod Stepping
pub use Rattle.act_calls.proofs as act_calls_lemmas
pub use Rattle.cell_clocks.proofs as cell_clocks_lemmas
pub use Rattle.act_calls.proofs.model_act_facts_lemmas
pub use Rattle.act_calls.proofs.model_acts_lemmas
pub use Rattle.cell_clocks.proofs.model_kernel_lemmas
