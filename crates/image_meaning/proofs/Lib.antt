pub mod Choosing
pub mod Fitting
pub mod Meaning
pub mod Resting
pub mod Ones
mod Emptying
mod Plain
pub mod Firsts
pub mod Finding
pub mod Sounding
pub use Rattle.blob_grammar.proofs as blob_grammar_lemmas
pub use Rattle.image_blocks.proofs as image_blocks_lemmas
pub use Rattle.model_cut_laws.proofs as model_cut_laws_lemmas
pub use Rattle.blob_grammar.proofs.model_kernel_lemmas
