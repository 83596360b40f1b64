pub mod Additions
pub mod Volumes
pub mod Waters
pub mod VolumesLemmas
pub mod Wraps
pub mod WatersLemmas
