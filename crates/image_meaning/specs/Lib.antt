pub mod Parts
pub mod Fits
pub mod Meaning
pub mod Foreign
pub mod Resting
pub mod Stores
pub mod Describing
pub mod Empty
pub use Rattle.blob_grammar.specs as blob_grammar
pub use Rattle.image_blocks.specs as image_blocks
pub use Rattle.image_blocks.specs.image_facts
pub use Rattle.model_cut_laws.specs as model_cut_laws
pub use Rattle.blob_grammar.specs.model_kernel
