pub use Rattle.edge_streams.specs as edge_streams
pub use Rattle.line_report.specs.image_blocks
pub use Rattle.image_shown_facts.specs.image_meaning
pub use Rattle.image_shown_facts.specs as image_shown_facts
pub use Rattle.line_report.specs as line_report
pub use Rattle.log_reading.specs.log_facts
pub use Rattle.log_reading.specs as log_reading
pub use Rattle.plain_states.specs.model_kernel
pub use Rattle.plain_show.specs as plain_show
pub use Rattle.plain_states.specs as plain_states
