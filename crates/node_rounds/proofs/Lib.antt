pub mod Heard
mod Coming
pub mod Going
pub use Rattle.node_standby.proofs as node_standby_lemmas
