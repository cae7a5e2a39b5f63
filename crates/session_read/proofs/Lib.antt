pub mod LineLaws
pub mod WordLaws
pub mod NumberLaws
pub mod HexLaws
pub mod DraftLaws
pub mod ArgumentLaws
pub mod ReadingLaws
pub mod Joining
