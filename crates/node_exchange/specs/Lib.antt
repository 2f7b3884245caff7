pub mod Playing
pub mod Wires
