pub mod Going
pub use Rattle.node_standby.specs as node_standby
