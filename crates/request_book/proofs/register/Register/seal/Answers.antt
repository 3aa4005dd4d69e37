use Rattle.std.proofs.Common.{◌≡◌, ℕ, Some, None, map, sym, ap, subst, ◌∙◌}
use Rattle.request_book.proofs.Common.{
  Batch,
  Reply,
  Sealed,
  Expired,
  State,
  changed_in_turn,
  state_of,
  with_status,
  after_seal,
  batch_of,
  sealed_state,
  one_more,
}
use Rattle.request_book.proofs.lemmas.register.BatchLemmas.{expired-map}
use Rattle.request_book.proofs.lemmas.register.StepLemmas.{seal-known}
use Rattle.request_book.proofs.register.Register.seal.Goals.{Joined-self}
use Rattle.request_book.proofs.register.Register.seal.Goals as goal

-- the state but for the batch
riders_are : (c : Joined-self) → state_of c.expire.new.self ≡ record (state_of c.args.self.now)
    { riders = map (after_seal c.args.wait c.args.second) c.args.self.now.riders.items }
unfolding batch_of
riders_are c =
    let g = c.args.self.now in
    let s = state_of g in
    let ids = c.as_slice.ensures ∙ ap (λ (b : Batch). b.expired) (c.snapshot-2.view_is ∙ c.in_ok-snapshot.ensures) in
    c.expire.ensures.state
    ∙ ap (λ ks. record s { riders = changed_in_turn (λ r. r.id) (with_status Expired) ks g.riders.items }) ids
    ∙ ap (λ rs. record s { riders = rs }) (expired-map c.args.wait c.args.second g.riders.items c.requires.indexed.riders)

-- the number of the batch
number_is : (c : Joined-self) → c.snapshot-2.inside.batch ≡ one_more c.args.self.now.batches
unfolding batch_of
number_is c = ap (λ (b : Batch). b.number) (c.snapshot-2.view_is ∙ c.in_ok-snapshot.ensures)

pub returns-in-Some-clause-ok : goal.returns-in-Some-clause-ok
returns-in-Some-clause-ok c = seal-known c.args.wait (state_of c.args.self.now) c.args.second (Some c.in-Some.refusal)
    (sym c.in-Some.is ∙ c.seal_refusal.ensures)

pub returns-clause-ok : goal.returns-clause-ok
unfolding sealed_state
returns-clause-ok c =
    let s = state_of c.args.self.now in
    let make : State → Batch → ℕ → State × Reply =
    λ t b n. (record { riders = t.riders; vehicles = t.vehicles; last_seal = Some c.args.second; sealed = Some b; batches = n }, Sealed n) in
    let after : State = record s { riders = map (after_seal c.args.wait c.args.second) s.riders } in
    ap (λ t. make t c.in_ok-snapshot.snapshot c.snapshot-2.inside.batch) (riders_are c)
    ∙ ap (λ b. make after b c.snapshot-2.inside.batch) c.in_ok-snapshot.ensures
    ∙ ap (make after (batch_of c.args.wait s c.args.second)) (number_is c)
    ∙ seal-known c.args.wait s c.args.second None (sym c.in_default.is ∙ c.seal_refusal.ensures)

pub returns-clause-room : goal.returns-clause-room
returns-clause-room c n room = let kept = c.expire.ensures.room n room in record { riders = kept.riders; ids = kept.ids }
