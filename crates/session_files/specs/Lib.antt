pub mod SessionFiles
pub mod ModuleLines
pub mod ShortSessions
