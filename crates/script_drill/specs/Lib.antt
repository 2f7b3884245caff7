pub mod Draws
pub mod Drill
pub use Rattle.script_types.specs as script_types
