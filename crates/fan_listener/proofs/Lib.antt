pub mod ResponseLemmas
pub mod PutLemmas
mod ListLemmas
mod AskedLemmas
mod RoomLemmas
mod WaitLemmas
mod StoredLemmas
mod ShutLemmas
pub mod RecordLemmas
pub mod Bounds
pub mod Laws
