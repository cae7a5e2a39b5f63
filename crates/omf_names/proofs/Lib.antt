mod NamesRead
mod SegmentRead
mod ListRead
mod Takes
mod ExternalsRead
mod PublicsRead
pub mod GroupRead
mod CommentRead
