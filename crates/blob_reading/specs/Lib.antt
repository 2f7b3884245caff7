pub mod Places
pub mod Containers
pub mod Loci
pub use Rattle.blob_facts.specs.act_calls
pub use Rattle.blob_facts.specs as blob_facts
