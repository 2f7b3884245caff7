pub mod Books
pub mod Between
pub mod Owning
pub use Rattle.image_blocks.specs.base_types
pub use Rattle.image_blocks.specs as image_blocks
pub use Rattle.image_blocks.specs.image_facts
pub use Rattle.image_meaning.specs as image_meaning
pub use Rattle.log_turn.specs.log_facts
pub use Rattle.log_turn.specs as log_turn
pub use Rattle.image_meaning.specs.model_cut_laws
pub use Rattle.image_blocks.specs.model_kernel
