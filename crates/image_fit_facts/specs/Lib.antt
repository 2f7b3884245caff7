pub mod Circles
pub mod Edges
pub mod Naming
pub mod Ties
pub use Rattle.image_meaning.specs as image_meaning
