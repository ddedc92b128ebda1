pub mod KeyBlocks
pub mod SparseStands
pub mod StepsPut
pub mod StretchBlocks
