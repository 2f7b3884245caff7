pub mod Formats
pub mod Faults
pub use Rattle.image_meaning.specs.blob_grammar
pub use Rattle.image_blocks.specs as image_blocks
pub use Rattle.image_blocks.specs.image_facts
pub use Rattle.image_meaning.specs as image_meaning
