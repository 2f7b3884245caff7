pub mod Directory
pub mod Reached
pub use Rattle.model_circles.specs as model_circles
