pub mod Lists
pub mod Positive
pub mod Opened
pub mod Behind
pub use Rattle.model_run_rules.proofs as model_run_rules_lemmas
