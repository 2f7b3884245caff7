pub use Rattle.log_facts.proofs as log_facts_lemmas
