mod EdgeLemmas
mod WantLemmas
