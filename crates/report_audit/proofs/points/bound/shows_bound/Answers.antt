use Rattle.std.proofs.Common.{◌≡◌, ◌↔◌, Bool, true, false, IsTrue, Result, Ok, Err, IfOk, sym, ap, ◌∙◌, of_z}
use Rattle.report_audit.proofs.Common.{ShowsBound, IsRefusal}
use mir.Syntax.{w128}
use Rattle.report_audit.proofs.lemmas.points.FaultLemmas.{one_value, whole_of_value, no_tree}
use Rattle.pool_base.specs.declared.memory.OutOfMemory.{OutOfMemory as NoMemory}
use Rattle.report_audit.proofs.points.bound.shows_bound.Goals as goal

pub returns-then-value-bound : goal.returns-then-value-bound
returns-then-value-bound c = (
  λ is. absurd (let no : false ≡ true = is in cc),
  λ has. absurd (c.if-value-bound.true (ap (of_z w128) (one_value c.args.graph.now c.args.tree.now c.in-Ok.value c.args.bound.now c.in-Ok.ensures.tree
      has.tree))),
)

pub returns-in-Err : goal.returns-in-Err
returns-in-Err c = by c.refused.result c.refused.ensures
  where
    by : (r : Result Bool NoMemory) → IfOk r (λ told. (told ≡ false) × IsRefusal c.in-Err.fault) →
        IfOk r (λ told. IsTrue told ↔ ShowsBound c.args.graph.now c.args.budget c.args.bound.now c.args.tree.now)
    by (Err e) h = tt
    by (Ok told) h = (
      λ is. absurd (let no : true ≡ false = sym is ∙ h.0 in cc),
      λ has. absurd (no_tree c.args.graph.now c.args.tree.now c.in-Err.fault h.1 c.in-Err.ensures.fault
          (whole_of_value c.args.graph.now c.args.tree.now c.args.bound.now has.tree)),
    )
