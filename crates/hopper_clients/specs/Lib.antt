pub mod Calls
pub mod Images
pub mod StopPromise
pub mod TracePromise
