pub mod Lending
pub use Rattle.kernel_run_facts.specs as kernel_run_facts
pub use Rattle.kernel_core.specs as kernel_core
pub use Rattle.kernel_core.specs.kernel_core_facts
pub use Rattle.node_pages.specs as node_pages
pub use Rattle.kernel_core.specs.kernel_commit_facts
pub use Rattle.kernel_core.specs.kernel_book_laws
