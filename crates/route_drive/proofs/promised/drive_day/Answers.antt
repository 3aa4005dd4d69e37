use Rattle.route_drive.proofs.EnterLemmas.{if_ok_map}
use Rattle.route_drive.proofs.Common.{entries_of, EntriesKeep}
use Rattle.route_drive.proofs.WorstLemmas.{day_in_time}
use Rattle.route_drive.proofs.kept.Promised.{new_book_keeps}
use Rattle.route_drive.proofs.promised.drive_day.Goals as goal

pub returns-clause-run : goal.returns-clause-run
returns-clause-run g c =
    let settings = c.args.solver.now.settings.now in
    let roads = c.args.solver.now.network.now in
    let s = c.args.book.state in
    let rounds = c.args.day.now in
    if_ok_map c.driven_day.result _ _ c.driven_day.ensures.run (λ run counted.
    let keeps : EntriesKeep settings roads s (entries_of counted.made) =
    new_book_keeps settings roads c.args.book rounds counted.made c.requires.new c.keeps.ensures c.keeps-3.ensures c.keeps-2.ensures c.requires.day
    counted.driven in
    (counted.made, counted.taken, day_in_time settings roads s rounds counted.made run (record { driven = counted.driven; keeps = keeps }) counted.counts))
