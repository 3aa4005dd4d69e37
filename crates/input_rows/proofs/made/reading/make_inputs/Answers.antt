use Rattle.std.proofs.Common.{ap, ◌∙◌}
use Rattle.input_rows.proofs.Common.{texts_of}
use Rattle.input_rows.proofs.made.ReadLemmas.{some_network, some_fleet, some_rounds}
use Rattle.input_rows.proofs.made.ShapeLemmas.{accepted}
use Rattle.input_rows.proofs.made.reading.make_inputs.Goals as goal

pub made_network-requires : goal.made_network-requires
made_network-requires c =
    let shape = c.args.shape.now in
    some_network (texts_of shape) c.network.result.now (accepted shape shape.in_range) (c.network.ensures ∙ ap (λ m. m.network) c.in_ok-made.ensures)

pub made_fleet-requires : goal.made_fleet-requires
made_fleet-requires c =
    let shape = c.args.shape.now in
    some_fleet (texts_of shape) c.fleet.result.now c.network.result.now c.in_ok-network.network (accepted shape shape.in_range)
    (c.fleet.ensures ∙ ap (λ m. m.fleet) c.in_ok-made.ensures) (c.network.ensures ∙ ap (λ m. m.network) c.in_ok-made.ensures) c.in_ok-network.ensures

pub made_script-requires : goal.made_script-requires
made_script-requires c =
    let shape = c.args.shape.now in
    some_rounds (texts_of shape) c.script.result.now (accepted shape shape.in_range) (c.script.ensures ∙ ap (λ m. m.script) c.in_ok-made.ensures)
