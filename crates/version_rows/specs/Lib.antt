pub mod Candidates
pub mod Courses
pub mod Drawings
pub mod Lines
pub mod Rooms
pub mod Rows
