pub mod Reading
pub use Rattle.kernel_record_facts.specs as kernel_record_facts
pub use Rattle.store_snapshots.specs as store_snapshots
pub use Rattle.page_placing.specs as page_placing
