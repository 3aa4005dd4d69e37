use Rattle.std.proofs.Common.{rules, ◌≡◌, ◌<◌, [], ◌∷◌, ◌++◌, length, ap, ◌∙◌, sym, subst, arith, append_assoc}
use Rattle.seat_lock.proofs.Common.{claim_of}
use Rattle.seat_lock.proofs.KeepsTurns.{glues}
use Rattle.seat_lock.proofs.Handing.{All-middle, some_mapped}
use Rattle.seat_lock.proofs.hand_out.join_all.Goals as goal

pub join_seat-requires : goal.join_seat-requires
join_seat-requires g c = let i = c.loop-pass.invariant in let p = c.in-Some-pop.pass in let e = c.in-Some-pop.ensures in (
  i.6,
  c.into_place.ensures.own.0 ∙ All-middle (λ q. q.table ≡ c.args.queue.now.shared.table_id) c.args.passes.items c.pop-in-loop-pass.new.self.items i.0 p
      (ap (λ l. l ++ i.0) (sym e.items) ∙ i.1) c.requires.passes,
  c.into_place.ensures.rests.1,
  search rules,
  glues _ _ _ _ _ _ _ _ _ i.4 c.into_place.ensures.rests.0 (subst (λ cs. 0 < length cs) (sym i.2) (some_mapped claim_of i.0 i.3)),
)

pub loop-pass-preserved : goal.loop-pass-preserved
loop-pass-preserved g c =
    let i = c.loop-pass.invariant in
    let j = c.join_seat.ensures in
    let pass = c.in-Some-pop.pass in (
      pass ∷ i.0,
      sym (append_assoc c.pop-in-loop-pass.new.self.items (pass ∷ []) i.0) ∙ ap (λ l. l ++ i.0) (sym c.in-Some-pop.ensures.items) ∙ i.1,
      ap (λ m. m.0.claims) j.2 ∙ (λ k. c.into_place.ensures.claims k ++ i.2 k),
      omega arith,
      ap (λ m. m.0.stage) j.2 ∙ i.4,
      ap (λ m. m.1) j.2 ∙ i.5,
      j.0 ∙ i.6,
    )
