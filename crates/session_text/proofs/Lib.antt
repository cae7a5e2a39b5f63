pub mod Parts
pub mod ScriptNumbers
pub mod SpacedLaws
pub mod PlainWords
pub mod NumberTexts
pub mod StatementTexts
pub mod SessionTexts
pub mod Readable
