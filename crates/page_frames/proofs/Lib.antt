pub mod FrameRows
