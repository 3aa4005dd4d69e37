-- The plan that trips give, and the points that ask for it.
use Rattle.std.proofs.Common.{ℕ, List, Option, sym, subst}
use Rattle.report_audit.proofs.Common.{IsClose, IsFair, ShowsBound, GivesPlanWith, Holds, Posed, TellsPlan, Planned, Settings, GivesTrips}
use Rattle.dispatch_engine.specs.declared.outcome.point.Point.TheVariants as point
use Rattle.report_audit.proofs.lemmas.points.VerdictLemmas.{HoldBelow, hold_more}

module _ (settings : Settings) (p : Posed) (planned : Planned) (plan : List (Option ℕ)) (gives : GivesTrips p.points p.tau p.settled p.graph plan
    planned.chosen) where
  pub with_plan : (P : List (Option ℕ) → Type 0) → P plan → GivesPlanWith p planned P
  with_plan P holds = record { chosen = plan; plan = gives.plan; trips = gives.trips_given; holds = holds }

  pub at_plan : (P : List (Option ℕ) → Type 0) → GivesPlanWith p planned P → P plan
  at_plan P with = subst P (sym (gives.only with.chosen with.plan with.trips)) with.holds

  -- the points as far as the plan, the bound and the tree
  pub up_to_plan : HoldBelow (λ q. Holds settings q planned p) 4 → TellsPlan p.settled p.graph plan planned → HoldBelow (λ q. Holds settings q planned p) 5
  up_to_plan before tells = hold_more (λ q. Holds settings q planned p) point.Plan before
      (with_plan (λ chosen. TellsPlan p.settled p.graph chosen planned) tells)

  pub up_to_bound : HoldBelow (λ q. Holds settings q planned p) 4 → TellsPlan p.settled p.graph plan planned →
      ShowsBound p.graph settings.budget planned.bound planned.tree → HoldBelow (λ q. Holds settings q planned p) 6
  up_to_bound before tells shown = hold_more (λ q. Holds settings q planned p) point.Bound (up_to_plan before tells) shown

  pub up_to_tree : HoldBelow (λ q. Holds settings q planned p) 4 → TellsPlan p.settled p.graph plan planned →
      ShowsBound p.graph settings.budget planned.bound planned.tree
      → IsClose p.graph settings.budget planned.cost planned.bound planned.tree × IsFair p.graph planned.bound planned.tree →
      HoldBelow (λ q. Holds settings q planned p) 7
  up_to_tree before tells shown fair = hold_more (λ q. Holds settings q planned p) point.Tree (up_to_bound before tells shown) fair
