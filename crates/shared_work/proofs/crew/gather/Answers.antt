use Rattle.std.proofs.Common.{rules, ◌≡◌, true, ◌<◌, Some, sym, ap, ◌∙◌, subst, arith}
use Rattle.std.proofs.lemmas.List.Elements.{All-append, All-pop}
use Rattle.shared_work.specs.declared.worker.Done.{Done}
use Rattle.shared_work.specs.work.Workers.{HasWorked, AreDoneRight}
use Rattle.shared_work.proofs.Keeps.{glues}
use Rattle.shared_work.proofs.Ended.{Matches-one, Matches-joined}
use Rattle.shared_work.proofs.crew.gather.Goals as goal

pub loop-worker-init : goal.loop-worker-init
loop-worker-init g c =
    let pieces = c.args.claims.now.shared.key.pieces in
    let e = c.in-Some.ensures in
    let h = All-pop (HasWorked c.args.claims.now.shared.table_id pieces) _ _ (Some _) e.items c.requires.worked in
    record {
      own = h.1.own;
      parts = omega (arith, h.1.part, e.cases);
      empty_handed = h.1.empty_handed;
      matches = λ on. let ended = h.1.ended on in Matches-one pieces _ _ ended.0 ended.1 ended.2;
      worked = h.0;
      right = λ job all. let p = All-pop (λ w. AreDoneRight pieces (g.J.Job.right job) w.done.items) _ _ (Some _) e.items all in (p.1, p.0);
    }

pub join_seat-requires : goal.join_seat-requires
join_seat-requires g c =
    let i = c.loop-worker.invariant in
    let h = All-pop (HasWorked c.args.claims.now.shared.table_id c.args.claims.now.shared.key.pieces) _ _ (Some _) c.in-Some-pop.ensures.items i.worked in
    (i.own, h.1.own, h.1.empty_handed, search rules, glues _ _ _ _ _ _)

pub loop-worker-preserved : goal.loop-worker-preserved
loop-worker-preserved g c =
    let pieces = c.args.claims.now.shared.key.pieces in
    let i = c.loop-worker.invariant in
    let e = c.in-Some-pop.ensures in
    let h = All-pop (HasWorked c.args.claims.now.shared.table_id pieces) _ _ (Some _) e.items i.worked in
    let j = c.join_seat.ensures in
    let items = c.in_ok-append.ensures.items in record {
      own = j.0 ∙ i.own;
      parts = omega (arith, h.1.part, e.cases, i.parts, ap (λ m. m.0.parts) j.2);
      empty_handed = ap (λ m. m.1) j.2 ∙ i.empty_handed;
      matches = λ on. let was : c.loop-worker.all.ended ≡ true = search rules in let ends : c.in-Some-pop.worker.ended ≡ true = search rules in let ended =
          h.1.ended ends in Matches-joined pieces _ _ _ _ _ _ ended.0 (ap (λ m. m.0.numbers) j.2) items (i.matches was) ended.1 ended.2;
      worked = h.0;
      right = λ job all.
          let r = i.right job all in
          let p = All-pop (λ w. AreDoneRight pieces (g.J.Job.right job) w.done.items) _ _ (Some _) e.items r.1 in (
            subst (AreDoneRight pieces (g.J.Job.right job)) (sym items) (All-append (λ (d : Done _). (d.piece < pieces) × g.J.Job.right job d.piece d.out) _ _
                r.0 p.1),
            p.0,
          );
    }

pub returns-clause-right : goal.returns-clause-right
returns-clause-right g c = λ job all. (c.loop-worker.invariant.right job all).0
