pub mod Matching
pub use Rattle.kernel_views.specs.kernel_block_laws
pub use Rattle.kernel_views.specs.kernel_invariant
pub use Rattle.kernel_views.specs.kernel_laws
pub use Rattle.kernel_views.specs.kernel_record_facts
pub use Rattle.kernel_views.specs.kernel_records
pub use Rattle.kernel_views.specs as kernel_views
pub use Rattle.kernel_views.specs.store_books
pub use Rattle.kernel_views.specs.store_facts
pub use Rattle.kernel_views.specs.store_snapshots
