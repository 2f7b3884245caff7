pub mod Stays
mod Phases
pub mod Filling
mod Committing
mod Agreeing
mod Fitting
mod Choosing
pub mod Unused
pub mod Readying
pub mod After
mod Chunks
pub mod Paged
pub mod SameMeaning
