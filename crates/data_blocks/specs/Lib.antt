pub mod Pool
pub mod Ledger
pub mod Bits
pub mod ShadowTable
pub use Rattle.edge_disk.specs as edge_disk
