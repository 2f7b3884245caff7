mod Heard
mod Letting
mod Owing
mod Noted
pub use Rattle.thread_desk_looks.proofs as thread_desk_looks_lemmas
pub use Rattle.thread_desk_looks.proofs.kernel_core_lemmas
pub use Rattle.thread_stables.proofs.thread_settling_lemmas
