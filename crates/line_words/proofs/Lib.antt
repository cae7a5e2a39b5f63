pub mod LeadingLaws
pub mod SpacedLaws
