pub mod TextRows
pub mod RowKinds
pub mod ValueWords
pub mod DeedRows
pub mod LineRows
pub mod ToldRows
