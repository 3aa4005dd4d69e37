use Rattle.road_hierarchy.proofs.build.Reading.{joined_left, joined_right}
use Rattle.road_hierarchy.proofs.build.draft.Draft.joining.Goals as goal

pub returns-then-from-to : goal.returns-then-from-to
returns-then-from-to c = joined_left c.args.self.now.up.items c.args.self.now.down.items c.args.from c.args.to c.rising.result c.rising.ensures

pub returns-else-from-to : goal.returns-else-from-to
returns-else-from-to c = joined_right c.args.self.now.up.items c.args.self.now.down.items c.args.from c.args.to c.falling.result c.falling.ensures
