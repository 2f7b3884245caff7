pub mod Formats
pub use Rattle.image_format.specs.image_meaning
