pub mod GathersLemmas
