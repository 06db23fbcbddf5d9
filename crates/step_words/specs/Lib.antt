pub mod Changing
pub mod Commands
pub mod Cut
pub mod Names
pub mod Numbers
pub mod Said
pub mod Speaking
