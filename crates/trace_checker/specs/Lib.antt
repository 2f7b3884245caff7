pub mod Reading
pub use Rattle.line_entries.specs as line_entries
pub use Rattle.line_text.specs as line_text
pub use Rattle.model_clocks.specs.model_kernel
pub use Rattle.plain_states.specs.model_sound_runs
pub use Rattle.script_types.specs as script_types
pub use Rattle.trace_facts.specs as trace_facts
pub use Rattle.trace_facts.specs.trace_step_facts
