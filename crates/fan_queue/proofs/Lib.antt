pub mod QueueLemmas
mod ChangeLemmas
mod CellLemmas
mod KeyLemmas
mod KeptLemmas
mod TakerLemmas
