pub mod LineLaws
pub mod WordLaws
pub mod NumberLaws
pub mod FlagLaws
pub mod EscapeLaws
