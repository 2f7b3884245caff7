pub mod Truths
pub use Rattle.thread_desk_stables.proofs.kernel_core_lemmas
pub use Rattle.thread_desk_stables.proofs.thread_settling_lemmas
