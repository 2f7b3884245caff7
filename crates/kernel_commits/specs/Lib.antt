pub mod Recording
pub mod Snapping
pub mod Stabilising
pub mod Stops
pub mod Telling
pub use Rattle.kernel_commit_facts.specs.kernel_block_laws
pub use Rattle.kernel_commit_facts.specs.kernel_book_laws
pub use Rattle.kernel_commit_facts.specs as kernel_commit_facts
pub use Rattle.kernel_commit_facts.specs.kernel_invariant
pub use Rattle.kernel_commit_facts.specs.kernel_laws
pub use Rattle.kernel_commit_facts.specs.kernel_record_facts
pub use Rattle.kernel_commit_facts.specs.kernel_records
pub use Rattle.kernel_commit_facts.specs.kernel_views
pub use Rattle.kernel_commit_facts.specs.model_serial
pub use Rattle.kernel_commit_facts.specs.model_serial_turns
pub use Rattle.kernel_commit_facts.specs.store_books
pub use Rattle.kernel_commit_facts.specs.store_facts
pub use Rattle.kernel_commit_facts.specs.store_snapshots
