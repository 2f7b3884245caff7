pub mod Lent
pub mod Snapping
pub use Rattle.kernel_commits.specs as kernel_commits
pub use Rattle.kernel_commit_facts.specs as kernel_commit_facts
