pub mod Answers
pub mod Standing
pub use Rattle.image_blocks.specs as image_blocks
pub use Rattle.image_blocks.specs.image_facts
pub use Rattle.log_facts.specs as log_facts
