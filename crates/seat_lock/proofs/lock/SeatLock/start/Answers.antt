use Rattle.std.proofs.Common.{[], ◌∷◌, ◌++◌, Some, sym, ap, ◌∙◌, subst}
use Rattle.seat_lock.proofs.Common.{opening, first_view, Kept}
use Rattle.seat_lock.proofs.Handing.{all_new, same_alone}
use Rattle.seat_lock.proofs.KeepsTurns.{begins}
use Rattle.seat_lock.proofs.lock.SeatLock.start.Goals as goal

pub new-requires : goal.new-requires
new-requires g c =
    let start = c.of.result.value in
    let lanes = c.args.lanes in
    let is = c.push_reserved.ensures.items ∙ ap (λ l. l ++ Some c.args.value ∷ []) c.in-Ok-with_capacity.ensures.items ∙
    ap (λ v. Some v ∷ []) (sym c.of.ensures) in
    subst (λ xs. Kept g.B.Logged.root g.B.Logged.log g.B.Logged.spare start lanes (opening (0 ∷ 0 ∷ 0 ∷ []) xs (first_view start lanes))) (sym is)
    (begins g.B.Logged.root g.B.Logged.log g.B.Logged.spare start lanes c.requires.0 c.requires.1)

pub hand_out-requires-clause-claims : goal.hand_out-requires-clause-claims
hand_out-requires-clause-claims g c = let new = c.in-Ok-new.ensures.ok in new.4 ∙ ap (λ k. (first_view k.opening.value c.args.lanes, [])) (sym new.5)

pub returns-in-Ok-new-clause-passes : goal.returns-in-Ok-new-clause-passes
returns-in-Ok-new-clause-passes g c = all_new _ c.args.lanes _ (ap (λ k. k.lanes) c.in-Ok-new.ensures.ok.5) c.hand_out.ensures.len c.hand_out.ensures.each

pub returns-in-Err-clause-refused : goal.returns-in-Err-clause-refused
returns-in-Err-clause-refused g c = same_alone _ _ _ c.only.ensures (c.in-Err.ensures.err ∙ c.push_reserved.ensures.items ∙
    ap (λ l. l ++ Some c.args.value ∷ []) c.in-Ok-with_capacity.ensures.items)
