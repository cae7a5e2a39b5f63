pub mod Turns
pub mod SpanLaws
pub mod FieldLaws
pub mod ListLaws
pub mod LengthLaws
pub mod ItemLaws
pub mod FaultLaws
