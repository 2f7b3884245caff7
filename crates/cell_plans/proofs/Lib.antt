pub mod Planned
pub mod Idling
pub mod Once
pub use Rattle.cell_calls.proofs as cell_calls_lemmas
pub use Rattle.act_look.proofs.act_invoke_lemmas
