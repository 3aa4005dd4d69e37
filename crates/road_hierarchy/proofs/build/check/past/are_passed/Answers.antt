use Rattle.std.proofs.Common.{◌++◌, IfOk, IsTrue, List, All, length, sym, subst}
use Rattle.road_network.specs.declared.arc.Arc.{Arc}
use Rattle.road_hierarchy.specs.work.build.Checked.{IsDown, IsPassed}
use Rattle.road_hierarchy.proofs.build.check.past.are_passed.Goals as goal

pub are_each_passed-requires-clause-downs : goal.are_each_passed-requires-clause-downs
are_each_passed-requires-clause-downs c = subst (All (IsDown (length c.args.draft.now.turns.items))) (sym c.deref.ensures.value) c.requires.downs.each

pub returns : goal.returns
returns c =
    subst (λ (downs : List Arc). IfOk c.are_each_passed.result (λ passed. IsTrue passed → All
    (IsPassed (c.args.draft.now.up.items ++ c.args.draft.now.down.items) c.args.draft.now.up.items) downs)) c.deref.ensures.value c.are_each_passed.ensures
