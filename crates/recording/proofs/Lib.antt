pub mod JsonReading
pub mod Labelled
pub mod Operands
pub mod ReadBack
pub mod Sizes
pub mod StageMembersFound
pub mod StagesReadBack
pub mod StepsReadBack
