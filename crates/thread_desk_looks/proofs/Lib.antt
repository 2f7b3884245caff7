pub mod Counted
pub mod Items
pub mod Looked
pub mod Told
pub use Rattle.thread_desk.proofs as thread_desk_lemmas
pub use Rattle.thread_desk.proofs.kernel_core_lemmas
