pub mod Views
pub use Rattle.base_types.specs as base_types
