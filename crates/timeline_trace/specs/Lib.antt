pub mod Deadlines
pub mod Flows
pub mod Held
pub mod Json
pub mod Processes
pub mod Rows
pub mod Ticks
pub mod Traces
