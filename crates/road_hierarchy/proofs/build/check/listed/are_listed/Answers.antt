use Rattle.std.proofs.Common.{◌++◌, All, Contains, subst}
use Rattle.road_hierarchy.proofs.build.check.listed.are_listed.Goals as goal

pub returns : goal.returns
returns c = λ yes. subst (All (Contains (c.args.draft.now.up.items ++ c.args.draft.now.down.items))) c.deref.ensures.value (c.are_each_listed.ensures yes)
