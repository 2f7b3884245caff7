pub mod Reports
pub use Rattle.image_blocks.specs as image_blocks
