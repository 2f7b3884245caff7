pub mod Paging
pub mod CommitAnswers
pub mod OpenFaults
pub mod ReadAnswers
pub mod Choosing
pub use Rattle.store_facts.specs.log_facts
pub use Rattle.store_facts.specs.store_books
pub use Rattle.store_facts.specs as store_facts
