use Rattle.input_rows.proofs.Common.{has_node}
use Rattle.std.proofs.lemmas.Bool.Decides.{same_from_decides}
use Rattle.input_rows.proofs.fleet.FleetRowLemmas.{has_node-Decides}
use Rattle.input_rows.proofs.fleet.fields.knows.Goals as goal

pub returns : goal.returns
returns c =
    same_from_decides c.has_node.result (has_node c.args.network.now.nodes c.args.node) c.has_node.ensures
    (has_node-Decides c.args.network.now.nodes c.args.node)
