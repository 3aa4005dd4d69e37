use Rattle.std.proofs.Common.{◌+◌, refl, arith}
use Rattle.road_hierarchy.proofs.build.Labelling.{labels_set, labelled_more}
use Rattle.road_hierarchy.proofs.build.check.search.Search.lower.Goals as goal

pub returns-clause-labels : goal.returns-clause-labels
returns-clause-labels c = λ arcs are among here high.
    let below = c.args.first.to in
    let source = c.args.first.from in
    let through = c.args.here + c.args.arc.seconds in
    labels_set arcs below source c.args.self.now.current c.args.self.now.labels.items c.args.arc.to
    (record { search = c.args.self.now.current; seconds = through }) are c.requires.end refl
    (labelled_more arcs below source c.args.arc c.args.here through here among high refl (omega (arith, c.if-through-most.false, c.requires.most)))
