use Rattle.std.proofs.Common.{◌≡◌, ℕ, List, ◌++◌, length, take, ℤ, pos, ◌≤ℤ◌, ◌+ℤ◌, ◌*ℤ◌, sym, ap, ◌∙◌, subst}
use Rattle.assignment_search.proofs.Common.{int_sum_below, usable_of, leaf_value, least_cost, first_fit, multiplier_at}
use Rattle.std.proofs.Math.Seq.{take-append_seam}
use Rattle.assignment_search.proofs.lemmas.FirstFitValueLemmas.{first_fit_leaves_room, first_fit_value_is}
use Rattle.assignment_search.proofs.first_fit_pass.first_fit_by.Goals as goal

-- a vector that was written as a whole
written : (ms new rest first : List ℤ) (n : ℕ) → ms ≡ take n (new ++ rest) → length new ≡ n → new ≡ first → ms ≡ first
written ms new rest first n is long same = is ∙ ap (λ (k : ℕ). take k (new ++ rest)) (sym long) ∙ take-append_seam new rest ∙ same

pub returns-clause-value : goal.returns-clause-value
returns-clause-value c = written _ _ _ _ _ c.of.ensures (c.fit.ensures.len ∙ c.deref_mut.ensures.len) c.fit.ensures.value

pub returns-clause-never_negative : goal.returns-clause-never_negative
returns-clause-never_negative c =
    let g = c.args.graph.now in
    let u = usable_of c.args.allowed.now in
    let is : c.of.result ≡ first_fit g u = written _ _ _ _ _ c.of.ensures (c.fit.ensures.len ∙ c.deref_mut.ensures.len) c.fit.ensures.value in
    λ r. subst (λ (ms : List ℤ). pos 0 ≤ℤ multiplier_at ms r) (sym is) ((first_fit_leaves_room g u c.rider_count.ensures.good).positive r)

pub returns-clause-worth : goal.returns-clause-worth
returns-clause-worth c =
    let g = c.args.graph.now in
    let u = usable_of c.args.allowed.now in
    let is : c.of.result ≡ first_fit g u = written _ _ _ _ _ c.of.ensures (c.fit.ensures.len ∙ c.deref_mut.ensures.len) c.fit.ensures.value in
    subst (λ (ms : List ℤ). leaf_value g u ms ≡ pos 1024 *ℤ int_sum_below g.vehicles (least_cost g u) +ℤ int_sum_below g.riders (multiplier_at ms)) (sym is)
    (first_fit_value_is g u c.rider_count.ensures.good)
