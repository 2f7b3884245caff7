pub mod Found
pub use Rattle.model_run_rules.specs as model_run_rules
pub use Rattle.model_run_rules.specs.model_run_laws
