use Rattle.std.proofs.Common.{◌≡◌, ◌<◌, ◌≤◌, ◌∷◌, [], ◌++◌, length, take, drop, suc, ◌+◌, sym, ap, ◌∙◌, subst, arith, List}
use Rattle.route_drive.proofs.Common.{take_more, NumberedLanes, HasCome, take_all}
use Rattle.route_drive.proofs.DriveLemmas.{come_none, come_more, round_late, rounds_at}
use Rattle.route_drive.proofs.drive.drive_rounds.Goals as goal

pub loop-round-init : goal.loop-round-init
loop-round-init g c =
    come_none c.args.solver.now.settings.now c.args.solver.now.network.now (g.K.RoundKeeper.took c.args.keeper.now c.args.keeper.now) c.args.book c.in-Ok.drive
    c.requires.fresh c.requires.new c.in-Ok.ensures.book c.in-Ok.ensures.courses c.in-Ok.ensures.served

pub loop-round-preserved : goal.loop-round-preserved
loop-round-preserved g c =
    let rounds = c.args.rounds.now in
    let i = c.loop-round.round-index in
    let after = g.K.RoundKeeper.took c.args.keeper.now c.drive_round.new.keeper in
    let within : c.loop-round.round-index < length c.args.rounds.now = omega arith in
    let parts : take i rounds ++ c.round-item.result ∷ [] ≡ take (i + 1) rounds = ap (λ (r : NumberedLanes). take i rounds ++ r ∷ []) c.round-item.is ∙
    sym (take_more rounds i c.round-item.result within) in
    subst (λ (rs : List NumberedLanes). HasCome after c.args.solver.now.settings.now c.args.solver.now.network.now c.args.book.state rs
    c.in-Ok-drive_round.next) parts
    (come_more c.args.solver.now.settings.now c.args.solver.now.network.now c.args.book.state (take i rounds)
    (g.K.RoundKeeper.took c.args.keeper.now c.loop-round.keeper) after c.loop-round.drive c.loop-round.invariant
    c.round-item.result c.in-Ok-drive_round.next (c.in-Ok-drive_round.ensures.run c.args.keeper.now))

pub returns-in-Err-drive_round-clause-late : goal.returns-in-Err-drive_round-clause-late
returns-in-Err-drive_round-clause-late g c =
    let rounds = c.args.rounds.now in
    let i = c.loop-round.round-index in
    let within : c.loop-round.round-index < length c.args.rounds.now = omega arith in
    round_late c.args.solver.now.settings.now c.args.solver.now.network.now c.args.book.state (take i rounds)
    (g.K.RoundKeeper.took c.args.keeper.now c.loop-round.keeper) (g.K.RoundKeeper.took c.args.keeper.now c.drive_round.new.keeper)
    c.loop-round.drive c.loop-round.invariant rounds (drop (suc i) rounds) c.round-item.result c.in-Err-drive_round.fault
    (rounds_at rounds i c.round-item.result within c.round-item.is) (c.in-Err-drive_round.ensures.late c.args.keeper.now)

pub returns-clause-run : goal.returns-clause-run
returns-clause-run g c =
    let all : length c.args.rounds.now ≤ c.loop-round.round-index = omega arith in
    subst (λ (rs : List NumberedLanes). HasCome (g.K.RoundKeeper.took c.args.keeper.now c.loop-round.keeper) c.args.solver.now.settings.now
    c.args.solver.now.network.now c.args.book.state rs c.loop-round.drive)
    (take_all c.loop-round.round-index c.args.rounds.now all) c.loop-round.invariant
