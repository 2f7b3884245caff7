pub mod Containers
pub mod Marks
pub use Rattle.base_types.specs as base_types
