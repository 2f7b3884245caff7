mod Doing
mod Serial
pub use Rattle.command_check_trace.proofs.command_promises_lemmas
pub use Rattle.command_format.proofs.image_meaning_lemmas
