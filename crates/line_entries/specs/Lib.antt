pub mod Entries
pub mod Summaries
pub use Rattle.line_text.specs as line_text
pub use Rattle.line_text.specs.model_kernel
