pub mod Beyond
pub mod Cuts
pub mod Named
pub mod Fronts
pub use Rattle.model_run_rules.proofs as model_run_rules_lemmas
