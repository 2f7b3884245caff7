pub mod Rows
pub mod Settling
pub use Rattle.thread_commits.specs as thread_commits
