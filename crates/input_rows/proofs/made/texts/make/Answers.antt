use Rattle.input_rows.proofs.made.RowTextLemmas.{texts_of-written}
use Rattle.input_rows.proofs.made.texts.make.Goals as goal

pub returns : goal.returns
returns c =
    texts_of-written c.args.shape.now _ _ _ _ _ _ _ c.seed_from_u64-rng.ensures.same
    (rw c.in_ok-network.ensures at c.in_ok-put_network.ensures)
    (rw c.in_ok-fleet.ensures at c.in_ok-put_fleet.ensures)
    (rw c.header.ensures.header at (rw c.in_ok-script.ensures at c.in_ok-put_script.ensures))
