use Rattle.std.proofs.Common.{[], List, sym, subst}
use Rattle.dispatch_engine.proofs.Common.{LaneProgress, HaveCome}
use Rattle.dispatch_engine.proofs.lemmas.lanes.ProgressLemmas.{come_none}
use Rattle.dispatch_engine.proofs.lanes.progress.Progress.at_start.Goals as goal

pub returns-clause-come : goal.returns-clause-come
returns-clause-come c = λ round. subst (λ (lanes : List LaneProgress). HaveCome round lanes []) (sym (c.in_ok-lanes.ensures.items_if_clones_equal (λ y e. e)))
    (come_none round)

pub returns-clause-stands : goal.returns-clause-stands
returns-clause-stands c = c.in_ok-lanes.ensures.items_if_clones_equal (λ y e. e)
