use Rattle.std.proofs.Common.{◌<◌, length, arith}
use Rattle.road_network.proofs.DirectoryLemmas.{FindsEach-more}
use Rattle.road_network.proofs.directory.number_all.Goals as goal

pub loop-number-preserved : goal.loop-number-preserved
loop-number-preserved c =
    let within : c.loop-number.number < length c.args.names.now = omega (arith, c.loop-number-test.true) in
    FindsEach-more c.args.names.now c.loop-number.number c.loop-number.numbers c.insert.new.self c.requires.distinct within c.loop-number.invariant
    c.in_ok-insert.ensures.updates
