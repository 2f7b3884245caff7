pub mod Images
mod KeptCalls
pub mod Phases
mod RunSoFar
mod TapeMoments
pub mod Ticks
mod TornImages
