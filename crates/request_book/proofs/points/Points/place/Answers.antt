use Rattle.std.proofs.Common.{Ok, Err, MatchResult, MatchOption, Result, ℕ}
use Rattle.std.specs.Result.{result_ok}
use Rattle.request_book.proofs.PointLemmas.{found_place}
use Rattle.request_book.proofs.points.Points.place.Goals as goal

-- a search's answer as an option
as_option : (P : Type 0) (Q : ℕ → Type 0) (r : Result ℕ ℕ) → MatchResult r Q (λ _. P) → MatchOption (result_ok r) P Q
as_option P Q (Ok i) h = h
as_option P Q (Err i) h = h

pub returns : goal.returns
returns c =
    rw (c.ok.ensures.value, ← c.self.view_is, ← c.deref.ensures.value) (as_option _ _ c.binary_search.result
    (found_place c.deref.result.now c.args.node c.binary_search.result c.binary_search.ensures.position (rw c.deref.ensures.value c.self.invariant)))
