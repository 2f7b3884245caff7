mod Placed
mod Delivered
pub use Rattle.node_commits.proofs as node_commits_lemmas
