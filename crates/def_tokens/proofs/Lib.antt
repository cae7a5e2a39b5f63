-- Equations of the tokens of bytes.
pub mod TokenLaws
-- The tokens of bytes, without their lines.
pub mod LexemeLaws
-- The words of the statements in one table.
pub mod Words
