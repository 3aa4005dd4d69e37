use Rattle.std.proofs.Common.{◌≡◌, ◌++◌, drop}
use Rattle.request_book.proofs.Common.{state_of, IsConsistent, IsIndexed}
use Rattle.request_book.specs.notices.Notices.{notices_from}
use Rattle.request_book.proofs.notices.noting.note_entries.Given as goal

abbrev pub invariant-loop-entry : goal.invariant-loop-entry
invariant-loop-entry l = record {
  indexed : IsIndexed l.register;
  consistent : IsConsistent (state_of l.register);
  told : l.told.items ++ notices_from l.nodes.names l.wait (state_of l.register) (drop l.entry-index l.entries)
      ≡ l.initial.told.items ++ notices_from l.nodes.names l.wait (state_of l.initial.register) l.entries;
}
