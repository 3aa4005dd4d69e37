use Rattle.std.proofs.Common.{◌<◌, ◌≤◌, length, subst, arith, List}
use Rattle.route_drive.proofs.Common.{Entry, AddsServed, take_all}
use Rattle.route_drive.proofs.EntryLemmas.{adds_none, adds_more}
use Rattle.route_drive.proofs.counts.note_entries.Goals as goal

pub loop-entry-init : goal.loop-entry-init
loop-entry-init c = adds_none c.args.served.now

pub loop-entry-preserved : goal.loop-entry-preserved
loop-entry-preserved c =
    let within : c.loop-entry.entry-index < length c.args.entries.now = omega arith in
    adds_more c.args.entries.now c.loop-entry.entry-index c.entry-item.result c.args.served.now c.loop-entry.served c.note_entry.new.served within
    c.entry-item.is c.loop-entry.invariant c.in_ok-note_entry.ensures

pub returns : goal.returns
returns c =
    let all : length c.args.entries.now ≤ c.loop-entry.entry-index = omega arith in
    subst (λ (es : List Entry). AddsServed es c.args.served.now c.loop-entry.served) (take_all c.loop-entry.entry-index c.args.entries.now all)
    c.loop-entry.invariant
