pub mod Forms
pub mod Shortage
pub mod BlobSizes
pub use Rattle.blob_writing.proofs.blob_facts_lemmas
pub use Rattle.image_meaning.proofs.blob_grammar_lemmas
pub use Rattle.cell_states.proofs.model_kernel_lemmas
pub use Rattle.act_look.proofs.model_sound_steps_lemmas
