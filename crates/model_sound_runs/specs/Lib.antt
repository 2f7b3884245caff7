pub mod Kinds
pub mod Names
pub use Rattle.script_types.specs.base_types
pub use Rattle.model_sound_steps.specs.model_circles
pub use Rattle.script_types.specs.model_kernel
pub use Rattle.model_run_laws.specs as model_run_laws
pub use Rattle.script_types.specs as script_types
