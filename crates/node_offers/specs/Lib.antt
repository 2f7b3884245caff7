pub mod Offering
pub use Rattle.node_newest.specs as node_newest
