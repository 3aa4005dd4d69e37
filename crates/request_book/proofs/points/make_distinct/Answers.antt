use Rattle.std.proofs.Common.{Contains, subst, sym, List, ℕ}
use Rattle.std.proofs.Math.Dec.{eqb}
use Rattle.std.proofs.lemmas.List.Filters.{dedup_is}
use Rattle.std.proofs.lemmas.List.Kept.{Contains-dedup_nat, Contains-from_dedup}
use Rattle.std.proofs.lemmas.List.Sorted.{IsPermutation-sym, Contains-permutation}
use Rattle.std.proofs.lemmas.Map.Keys.{IsStrictlyIncreasing-dedup}
use Rattle.request_book.proofs.points.make_distinct.Goals as goal

pub returns-clause-rise : goal.returns-clause-rise
returns-clause-rise c =
    let is = dedup_is eqb _ _ c.dedup.ensures.filtered in
    rw is (IsStrictlyIncreasing-dedup _ c.sort_unstable.ensures.sorted)

pub returns-clause-same : goal.returns-clause-same
returns-clause-same c =
    let is = dedup_is eqb _ _ c.dedup.ensures.filtered in
    let sorted = c.sort_unstable.new.self.items in
    let named = c.args.nodes.now.items in
    λ node. (
      (λ has.
          let P : List ℕ → Type 0 = λ xs. Contains xs node in
          Contains-permutation sorted named node (IsPermutation-sym named sorted c.sort_unstable.ensures.permutation)
          (Contains-from_dedup eqb sorted node (subst P is has))),
      (λ has.
          let P : List ℕ → Type 0 = λ xs. Contains xs node in
          subst P (sym is) (Contains-dedup_nat sorted node (Contains-permutation named sorted node c.sort_unstable.ensures.permutation has))),
    )
