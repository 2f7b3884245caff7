pub mod Exits
pub mod Whole
pub mod Codes
pub mod LocusForms
pub mod LocusFields
pub use Rattle.blob_facts.proofs as blob_facts_lemmas
