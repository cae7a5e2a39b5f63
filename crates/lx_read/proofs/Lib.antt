pub mod TableLoop
pub mod Headers
pub mod Spans
pub mod Ordinals
pub mod Sources
pub mod PageReferences
pub mod WholeFiles
