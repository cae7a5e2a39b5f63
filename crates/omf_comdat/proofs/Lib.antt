pub mod Mapped
pub mod Begins
pub mod RecordAdded
pub mod RecordRead
pub mod Ends
pub mod Members
pub mod After
pub mod Indexed
