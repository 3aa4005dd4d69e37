use Rattle.std.proofs.Common.{◌≡◌, ◌∙◌, ℕ, List, Some, get_or, sym, ap, subst, ⊎_elim, arith}
use Rattle.bound_checker.proofs.Common.{cases_eq, row_at, riders_at, choice_at, TripRow, row_read, IsApart, ShareARider}
use Rattle.bound_checker.proofs.DeadEndLemmas.{when_false, apart_rows, none_second, below_end}
use Rattle.bound_checker.proofs.dead_end.clashes.Goals.{in-Some-sole+else-share_a_rider, in_default-sole}
use Rattle.bound_checker.proofs.dead_end.clashes.Goals as goal

pub loop-second-preserved : goal.loop-second-preserved
loop-second-preserved c = λ w low high share.
    let g = c.args.graph.now in
    let sole = c.args.sole.now in
    let rows = c.rows-rows.result.now in
    let j = c.in-Some.one in
    ⊎_elim
    (λ (here : w ≡ c.loop-second.second).
    let now : ShareARider g sole c.args.first c.loop-second.second = subst (ShareARider g sole c.args.first) here share in
    elim c.match-sole-second.branch [
      | in-Some-sole+else-share_a_rider x ↦
          let k = x.in-Some-sole.other in
          let one : choice_at sole c.args.first ≡ Some j = c.in-Some.is in
          let other : choice_at sole c.loop-second.second ≡ Some k = x.in-Some-sole.is in
          let first : get_or rows j c.index-rows-one.result ≡ row_at g j = sym c.index-rows-one.is ∙
          row_read g rows j c.index-rows-one.result c.rows-rows.ensures.value (c.requires.sole c.args.first j one) c.index-rows-one.is in
          let second : get_or rows k x.index-rows-other.result ≡ row_at g k = sym x.index-rows-other.is ∙
          row_read g rows k x.index-rows-other.result c.rows-rows.ensures.value (c.requires.sole c.loop-second.second k other) x.index-rows-other.is in
          let riders : c.as_slice-riders.result.now ≡ riders_at g j = c.as_slice-riders.ensures.value ∙ ap (λ (r : TripRow). r.riders.items) first in
          let others : x.as_slice.result.now ≡ riders_at g k = x.as_slice.ensures.value ∙ ap (λ (r : TripRow). r.riders.items) second in
          let apart : IsApart c.as_slice-riders.result.now x.as_slice.result.now = when_false x.share_a_rider.result _ _ x.if-share_a_rider.false
          x.share_a_rider.ensures in
          apart_rows g sole c.args.first c.loop-second.second j k one other (subst (λ (xs : List ℕ). IsApart xs (riders_at g k)) riders
          (subst (IsApart c.as_slice-riders.result.now) others apart)) now
      | in_default-sole x ↦ none_second g sole c.args.first c.loop-second.second x.in_default-sole.is now
    ])
    (λ (other : w ≡ c.loop-second.second → ⊥). c.loop-second.invariant w low (omega (arith, high)) share)
    (cases_eq w c.loop-second.second)

pub returns : goal.returns
returns c w below share = c.loop-second.invariant w below (omega (arith, below_end c.args.sole.now w share.other share.second)) share
