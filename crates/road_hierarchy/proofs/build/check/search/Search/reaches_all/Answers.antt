use Rattle.std.proofs.Common.{◌<◌, inl, inr, length, get_or, sym, ap, ◌∙◌, subst, arith}
use Rattle.std.proofs.lemmas.Bool.{cases_eq}
use Rattle.std.proofs.lemmas.List.{get_or_default, get_or_read}
use Rattle.road_network.specs.declared.arc.Arc.{Arc}
use Rattle.road_hierarchy.specs.declared.build.check.label.Label.{Label}
use Rattle.road_hierarchy.specs.work.build.Checked.{IsReached}
use Rattle.road_hierarchy.proofs.build.Labelling.{reached}
use Rattle.road_hierarchy.proofs.build.check.search.Search.reaches_all.Goals as goal

pub loop-second-preserved : goal.loop-second-preserved
loop-second-preserved c = λ arcs are k d lt.
    let ups = c.args.ups.now in
    let i = c.loop-second.second-index in
    let labels = c.args.self.now.labels.items in
    let none : Arc = record { from = 0; to = 0; seconds = 0 } in
    let unmet : Label = record { search = 0; seconds = 0 } in
    let inside : c.loop-second.second-index < length c.args.ups.now = omega arith in
    let second = get_or ups i none in
    let known = c.requires.within i none inside in
    let read = get_or_read labels (get_or ups i none).to c.index-label.result.now known.1 c.index-label.ensures unmet in
    elim (cases_eq k c.loop-second.second-index) [
      | inl e ↦
          subst (λ second. IsReached arcs c.args.first second) (get_or_default ups i none d inside ∙ ap (λ x. get_or c.args.ups.now x d) (sym e))
          (reached arcs c.args.first (get_or ups i none) c.args.self.now.current labels unmet are known.1
          (sym (ap (λ (l : Label). l.search) read) ∙ omega (arith, c.if-label-self.false))
          (omega (arith, c.if-label-first.false, ap (λ (l : Label). l.seconds) read)))
      | inr ne ↦ c.loop-second.invariant arcs are k d (omega (arith, lt, ne))
    ]
