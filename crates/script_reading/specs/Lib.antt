pub mod Views
pub use Rattle.script_meaning.specs as script_meaning
