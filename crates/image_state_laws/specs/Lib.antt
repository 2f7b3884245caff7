pub mod Restoring
pub mod Versions
pub use Rattle.image_meaning.specs.image_blocks
pub use Rattle.image_meaning.specs.image_facts
pub use Rattle.image_meaning.specs as image_meaning
pub use Rattle.image_meaning.specs.model_cut_laws
pub use Rattle.image_meaning.specs.model_kernel
pub use Rattle.model_sound_states.specs.model_run_laws
pub use Rattle.model_sound_states.specs.model_sound_runs
pub use Rattle.model_sound_states.specs as model_sound_states
pub use Rattle.model_sound_states.specs.script_types
