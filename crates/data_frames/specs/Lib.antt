pub mod FrameTable
pub mod Held
