pub mod Shipping
pub use Rattle.node_commits.specs as node_commits
pub use Rattle.node_commits.specs.kernel_invariant
pub use Rattle.page_placing.specs as page_placing
