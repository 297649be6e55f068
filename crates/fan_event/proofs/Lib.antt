pub mod KeyLemmas
pub mod HashLemmas
