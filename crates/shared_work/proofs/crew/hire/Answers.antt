use Rattle.std.proofs.Common.{rules, All, refl, sym, subst, ap, ◌∙◌, arith}
use Rattle.std.proofs.lemmas.List.Elements.{All-push}
use Rattle.shared_work.specs.work.Workers.{IsReady}
use Rattle.shared_work.proofs.Keeps.{cuts}
use Rattle.shared_work.proofs.crew.hire.Goals as goal

pub split_seat-hand-requires : goal.split_seat-hand-requires
split_seat-hand-requires g c = let p = ap (λ m. m.0.parts) c.loop.invariant.parts in (
  search rules,
  search rules,
  cuts _ _ _ _ (omega (arith, p))
      (ap (λ m. m.0.numbers) c.loop.invariant.parts),
)

pub loop-preserved : goal.loop-preserved
loop-preserved g c = let e = c.push_reserved.ensures in record {
  own = search rules;
  parts = search rules;
  len = omega (arith, e.len, c.loop.invariant.len);
  room = e.capacity ∙ c.loop.invariant.room;
  ready = subst (All (IsReady c.args.claims.now.shared.table_id)) (sym e.items) (All-push (IsReady c.args.claims.now.shared.table_id) _ _ c.loop.invariant.ready
      (record { own = search rules; fresh = search rules; none_done = c.new.ensures.items; begun = refl }));
}
