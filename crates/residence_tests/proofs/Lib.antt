pub mod SoundCounts
pub mod SoundTable
