pub mod Plains
pub mod Events
pub mod Lists
pub mod Entries
pub mod Born
pub mod EdgeLists
pub use Rattle.base_types.specs as base_types
pub use Rattle.model_act_facts.specs as model_act_facts
pub use Rattle.model_acts.specs as model_acts
pub use Rattle.model_kernel.specs as model_kernel
pub use Rattle.model_sound_runs.specs as model_sound_runs
pub use Rattle.script_types.specs as script_types
