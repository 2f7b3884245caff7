pub mod Blocks
pub mod BitLemmas
pub mod Members
pub mod Holdings
