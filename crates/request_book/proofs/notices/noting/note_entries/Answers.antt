use Rattle.std.proofs.Common.{◌≡◌, ap, sym, subst, ◌∙◌, arith}
use Rattle.request_book.proofs.Common.{IsConsistent, state_of, step}
use Rattle.request_book.proofs.lemmas.ConsistentLemmas.{step-consistent}
use Rattle.request_book.proofs.notices.NoticeLemmas.{told-next, told-end}
use Rattle.request_book.proofs.notices.noting.note_entries.Goals as goal

pub run-requires-clause-consistent : goal.run-requires-clause-consistent
run-requires-clause-consistent c = subst IsConsistent (sym c.in_ok-reserve.ensures.state) c.loop-entry.invariant.consistent

pub loop-entry-preserved : goal.loop-entry-preserved
loop-entry-preserved c =
    let l = c.loop-entry in
    let e = c.entry-item.result in
    let nodes = c.args.nodes.now.names in
    let stepped : (state_of c.run.new.self, c.in_ok-run.field-0) ≡ step nodes c.args.wait (state_of l.register) e.command =
    c.in_ok-run.ensures.ok ∙ ap (λ s. step nodes c.args.wait s e.command) c.in_ok-reserve.ensures.state in
    record {
      indexed = c.run.ensures.indexed;
      consistent = subst IsConsistent (sym (ap (λ p. p.0) stepped)) (step-consistent nodes c.args.wait (state_of l.register) e.command l.invariant.consistent);
      told = told-next nodes c.args.wait (state_of l.register) (state_of c.run.new.self) c.in_ok-run.field-0 c.args.entries.now l.entry-index e l.told.items
          c.note_step.new.told.items _
          c.loop-entry-test.true c.entry-item.is c.in_ok-note_step.ensures stepped l.invariant.told;
    }

pub returns : goal.returns
returns c = told-end c.args.nodes.now.names c.args.wait (state_of c.loop-entry.register) c.args.entries.now c.loop-entry.entry-index c.loop-entry.told.items _
    (omega arith) c.loop-entry.invariant.told
