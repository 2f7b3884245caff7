pub mod Tellings
pub use Rattle.command_source.specs as command_source
pub use Rattle.line_entries.specs as line_entries
pub use Rattle.command_open.specs.model_births
pub use Rattle.script_types.specs.model_kernel
