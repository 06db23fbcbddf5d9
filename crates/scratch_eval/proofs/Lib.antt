pub mod Evaluating
pub mod Querying
pub mod Pathing
