pub mod Telling
pub use Rattle.line_entries.specs as line_entries
