pub mod Serial
pub use Rattle.model_births.specs as model_births
pub use Rattle.model_births.specs.model_kernel
pub use Rattle.model_births.specs.model_sound_runs
pub use Rattle.model_births.specs.script_types
