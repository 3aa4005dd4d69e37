use Rattle.assignment_search.proofs.lemmas.FirstFitValueLemmas.{first_fit_leaves_room}
use Rattle.assignment_search.proofs.laws.first_fit_is_between_zero_and_the_penalty.Goals as goal

pub returns : goal.returns
returns c = record {
  low = λ g usable r good. (first_fit_leaves_room g usable good).positive r;
  high = λ g usable r good. (first_fit_leaves_room g usable good).most r;
}
