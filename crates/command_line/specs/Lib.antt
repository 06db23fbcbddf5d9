pub mod Words
pub mod Percents
pub mod Subcommands
