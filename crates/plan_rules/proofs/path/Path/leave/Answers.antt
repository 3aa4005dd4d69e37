use Rattle.std.proofs.Common.{◌-◌, ℕ, List, false, get_or, set, take, ◌∷◌, sym, ap, ◌∙◌, arith}
use Rattle.plan_rules.proofs.Common.{Usable, Standing, standing_of, Decision}
use Rattle.plan_rules.proofs.lemmas.PathLemmas.{standing_start, coming_left, leave_next}
use Rattle.plan_rules.proofs.path.Path.leave.Goals.{then-loop-depth-test+else-not-index, else-loop-depth-test}
use Rattle.plan_rules.proofs.path.Path.leave.Goals as goal

pub returns-then-depth-eq0-clause-next : goal.returns-then-depth-eq0-clause-next
returns-then-depth-eq0-clause-next c = λ g.
    ap (λ (p : List Decision). (standing_of g p).coming) (sym c.self.view_is)
    ∙ coming_left g c.self.inside.decisions.items c.loop-depth.depth c.loop-depth.invariant.within c.loop-depth.invariant.dropped
    ∙ ap (λ (n : ℕ). (standing_of g (take n c.self.inside.decisions.items)).coming) c.if-depth-eq0.true
    ∙ ap (λ (s : Standing). s.coming) (standing_start g)

pub returns-clause-next : goal.returns-clause-next
returns-clause-next c = λ g.
    let path = c.self.inside.decisions.items in
    let depth = c.loop-depth.depth in
    let last = c.index-last.result.now in
    let off : Decision = record { vehicle = last.vehicle; row = last.row; alone = false } in
    let cut : List Decision → List Usable = λ p. (standing_of g (set p (depth - 1) off)).usable ∷ (standing_of g (set p (depth - 1) off)).coming in
    ap (λ (p : List Decision). (standing_of g p).coming) (sym c.self.view_is)
    ∙ elim c.loop-depth-test.branch [
      | then-loop-depth-test+else-not-index w ↦
          leave_next g path depth w.index.result.now last (omega arith) c.loop-depth.invariant.within w.index.ensures w.if-not-index.false
          (c.index-last.ensures ∙ ap (λ (p : List Decision). get_or p (depth - 1) last) c.truncate.ensures.items) c.loop-depth.invariant.dropped
      | else-loop-depth-test w ↦ absurd (omega arith)
    ]
    ∙ ap cut (sym c.truncate.ensures.items)
