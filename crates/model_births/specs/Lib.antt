pub mod Fitting
pub mod Misfits
pub use Rattle.model_sound_runs.specs.model_kernel
pub use Rattle.model_sound_runs.specs as model_sound_runs
pub use Rattle.model_sound_runs.specs.script_types
