pub mod Copies
pub mod Needing
pub use Rattle.model_sound_states.specs as model_sound_states
pub use Rattle.model_sound_states.specs.model_kernel
