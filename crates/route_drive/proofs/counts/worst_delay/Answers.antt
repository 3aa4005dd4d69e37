use Rattle.std.proofs.Common.{◌≡◌, ◌+◌, ◌<◌, ◌≤◌, ◌∷◌, [], ◌++◌, max, length, take, refl, sym, ap, ◌∙◌, subst, arith, List, ℕ}
use Rattle.route_drive.proofs.Common.{AllZip, take_more, ServedRider, IsDelayed, take_all, all_zipped_more}
use Rattle.route_drive.proofs.EntryLemmas.{greatest-push}
use Rattle.route_drive.proofs.counts.worst_delay.Goals as goal

pub loop-served-init : goal.loop-served-init
loop-served-init c = ([], tt, refl)

pub loop-served-preserved : goal.loop-served-preserved
loop-served-preserved c =
    let R = IsDelayed c.args.arcs.now.network.now c.args.book.now.state.riders in
    let i = c.loop-served.served-index in
    let dropped = c.args.dropped.now in
    let delay = c.in-Ok.delay in
    let within : c.loop-served.served-index < length c.args.dropped.now = omega arith in
    let greater : c.max-worst.result ≡ max c.loop-served.worst c.in-Ok.delay = c.max-worst.ensures in
    let parts : take i dropped ++ c.served-item.result ∷ [] ≡ take (i + 1) dropped = ap (λ (x : ServedRider). take i dropped ++ x ∷ []) c.served-item.is ∙
    sym (take_more dropped i c.served-item.result within) in (
      c.loop-served.invariant.0 ++ delay ∷ [],
      subst (λ (l : List ServedRider). AllZip R l (c.loop-served.invariant.0 ++ delay ∷ [])) parts
          (all_zipped_more R (take i dropped) c.loop-served.invariant.0 c.served-item.result delay c.loop-served.invariant.1 c.in-Ok.ensures),
      greater ∙ ap (λ (w : ℕ). max w delay) c.loop-served.invariant.2 ∙ sym (greatest-push c.loop-served.invariant.0 delay),
    )

pub returns : goal.returns
returns c =
    let all : length c.args.dropped.now ≤ c.loop-served.served-index = omega arith in (
      c.loop-served.invariant.0,
      subst (λ (l : List ServedRider). AllZip (IsDelayed c.args.arcs.now.network.now c.args.book.now.state.riders) l c.loop-served.invariant.0)
          (take_all c.loop-served.served-index c.args.dropped.now all) c.loop-served.invariant.1,
      c.loop-served.invariant.2,
    )
