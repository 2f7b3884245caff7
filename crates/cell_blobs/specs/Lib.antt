pub mod Blobs
pub mod Ranges
pub use Rattle.act_look.specs.act_alone
pub use Rattle.act_look.specs as act_look
pub use Rattle.image_meaning.specs.blob_grammar
pub use Rattle.cell_states.specs as cell_states
pub use Rattle.image_meaning.specs as image_meaning
pub use Rattle.cell_states.specs.model_kernel
pub use Rattle.act_look.specs.page_memory
