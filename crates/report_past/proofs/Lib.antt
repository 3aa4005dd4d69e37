pub mod lemmas
mod BlockLeftLemmas
mod CutLemmas
mod FinishLemmas
mod ItemLeftLemmas
mod ItemLemmas
mod LeftLemmas
mod NextLeftLemmas
mod PastLeftLemmas
mod RoundLemmas
mod RowLeftLemmas
mod RunLeftLemmas
mod TakeLemmas
mod TurnLeftLemmas
mod WholeLeftLemmas
