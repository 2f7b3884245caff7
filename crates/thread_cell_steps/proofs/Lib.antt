pub mod Returning
pub mod Planned
pub mod Quietly
pub mod Looking
pub mod Writing
pub mod Shapes
pub mod Advanced
pub mod Touching
pub use Rattle.thread_steps.proofs as thread_steps_lemmas
pub use Rattle.table_laws.proofs as table_laws_lemmas
pub use Rattle.table_steps.proofs as table_steps_lemmas
