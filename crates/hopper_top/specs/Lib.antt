pub mod Leaving
pub use Rattle.command_format.specs as command_format
pub use Rattle.command_copy.specs as command_copy
pub use Rattle.command_check_trace.specs.command_promises
pub use Rattle.command_show.specs as command_show
pub use Rattle.command_run.specs.command_source
pub use Rattle.command_check_trace.specs.image_facts
pub use Rattle.command_format.specs.image_meaning
pub use Rattle.command_check_trace.specs.kernel_invariant
pub use Rattle.command_run.specs.line_entries
pub use Rattle.command_run.specs.model_births
pub use Rattle.command_check_trace.specs.model_serial
pub use Rattle.command_check_trace.specs.open_facts
pub use Rattle.command_check_trace.specs.open_kernel
pub use Rattle.command_show.specs.plain_show
