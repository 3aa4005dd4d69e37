use Rattle.std.proofs.Common.{◌≡◌, ℕ, ◌<◌, length, set, ℤ, pos, sym, ap, ◌∙◌, subst, arith, w64, to_z, of_z}
use Rattle.assignment_search.proofs.Common.{usable_of, multiplier_at, first_fit_below, IsModest}
use Rattle.std.proofs.lemmas.Int.{to_z-of_z}
use Rattle.assignment_search.proofs.lemmas.FirstFitLemmas.{first_fit_none, first_fit_more, first_fit_done, modest_zero, set_all}
use Rattle.assignment_search.proofs.first_fit_pass.fit.Goals as goal

pub loop-rider-init : goal.loop-rider-init
loop-rider-init c = record {
  value = λ r. c.requires.none r ∙ sym (first_fit_none c.args.graph.now (usable_of c.args.allowed.now) r);
  modest = λ r. modest_zero _ (c.requires.none r);
}

pub loop-rider-preserved : goal.loop-rider-preserved
loop-rider-preserved c =
    let g = c.args.graph.now in
    let u = usable_of c.args.allowed.now in
    let n = c.loop-rider.rider in
    let ms = c.loop-rider.multipliers in
    let m = c.next_multiplier-next.result in
    let back : to_z w64 (of_z w64 m) ≡ m = to_z-of_z w64 m (record { sfits = c.next_multiplier-next.type_inv }) in
    let low : n < length ms = omega arith in
    record {
      value = λ r. ap (λ (z : ℤ). multiplier_at (set ms n z) r) back ∙ first_fit_more g u n ms m low c.loop-rider.invariant.value
          c.next_multiplier-next.ensures.value r;
      modest = λ r. subst (λ (z : ℤ). IsModest (multiplier_at (set ms n z) r)) (sym back) (set_all (λ _ w. IsModest w) ms n m (pos 0) low
          c.next_multiplier-next.ensures.modest c.loop-rider.invariant.modest r);
    }

pub returns-clause-value : goal.returns-clause-value
returns-clause-value c =
    let g = c.args.graph.now in
    let u = usable_of c.args.allowed.now in
    let ended : c.loop-rider.rider ≡ g.riders = omega (arith, c.requires.multipliers) in
    first_fit_done g u g.riders c.loop-rider.multipliers (omega (arith, c.requires.multipliers))
    (λ r. c.loop-rider.invariant.value r ∙ ap (λ (n : ℕ). multiplier_at (first_fit_below g u n) r) ended)
