pub mod Gave
pub mod Halts
pub mod Lines
pub mod Statuses
pub mod Playing
pub mod Refusing
pub mod Leaving
pub use Rattle.command_open.specs as command_open
