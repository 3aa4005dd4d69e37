use Rattle.std.proofs.Common.{◌≡◌, eqb, sym, ap, ◌∙◌, arith}
use Rattle.std.specs.List.{list_any}
use Rattle.request_book.specs.notices.Steady.{Inbox}
use Rattle.request_book.proofs.notices.SteadyLemmas.{at_most, stopped, going}
use Rattle.request_book.proofs.notices.memory_notifier.MemoryNotifier.is_to_fail.Goals as goal
use Rattle.request_book.proofs.notices.memory_notifier.MemoryNotifier.is_to_fail.Goals.{After-is_among}

-- whether the call is among those that are to fail
among : (c : After-is_among) → list_any (λ f. eqb f c.args.self.now.calls) c.args.self.now.fail ≡ c.is_among.result
among c =
    let n = c.args.self.now in
    sym (
    c.is_among.ensures.any
    ∙ ap (list_any (λ f. eqb f c.self.inside.calls)) (c.deref.ensures.value ∙ ap (λ (v : Inbox). v.fail) c.self.view_is)
    ∙ ap (λ k. list_any (λ f. eqb f k) n.fail) (ap (λ (v : Inbox). v.calls) c.self.view_is)
    )

pub returns-then-self-eq0-clause-stopped : goal.returns-then-self-eq0-clause-stopped
returns-then-self-eq0-clause-stopped c passes =
    let n = c.args.self.now in
    omega (arith, c.if-self-eq0.true, ap (λ (v : Inbox). v.room) c.self.view_is, at_most n.room n.fail n.calls)

pub returns-else-self-eq0-clause-stopped : goal.returns-else-self-eq0-clause-stopped
returns-else-self-eq0-clause-stopped c passes = let n = c.args.self.now in stopped n.room n.fail n.calls (among c ∙ passes)

pub returns-else-self-eq0-clause-going : goal.returns-else-self-eq0-clause-going
returns-else-self-eq0-clause-going c fails next from to =
    let n = c.args.self.now in
    going n.room n.fail n.calls next from to (omega (arith, c.if-self-eq0.false, ap (λ (v : Inbox). v.room) c.self.view_is)) (among c ∙ fails)
