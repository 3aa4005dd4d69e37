use Rattle.std.proofs.Common.{◌≡◌, List, Option, Some, None, map, refl, sym, ap, subst, ◌∙◌}
use Rattle.request_book.proofs.Common.{
  Batch,
  Rider,
  Register,
  Reply,
  Closed,
  BookRider,
  State,
  after_answer,
  KeysDiffer,
  KeysRise,
  not_this_batch,
  state_of,
  IsIndexed,
}
use Rattle.request_book.proofs.lemmas.register.CloseLemmas.{answer-settled}
use Rattle.request_book.proofs.lemmas.register.IndexLemmas.{IsPool-same}
use Rattle.request_book.proofs.lemmas.values.KeyedLemmas.{rise_from_increasing}
use Rattle.request_book.proofs.lemmas.register.StepLemmas.{close-known, closed-some}
use Rattle.request_book.proofs.register.Register.close.Goals.{in-Some-take, in_default-take}
use Rattle.request_book.proofs.register.Register.close.Goals as goal

pub returns-in-Some-clause-stepped : goal.returns-in-Some-clause-stepped
returns-in-Some-clause-stepped c = close-known (state_of c.args.self.now) c.args.batch c.args.answer.now (Some c.in-Some.refusal)
    (sym c.in-Some.is ∙ c.not_this_batch.ensures)

pub settle-requires-clause-rise : goal.settle-requires-clause-rise
settle-requires-clause-rise c =
    subst (KeysRise (λ (r : Rider). r.id)) (sym c.as_slice-batch.ensures) (rise_from_increasing (λ (r : Rider). r.id) c.snapshot.inside.riders
    c.snapshot.invariant.riders_rise)

pub returns-clause-stepped : goal.returns-clause-stepped
returns-clause-stepped c =
    let g = c.args.self.now in
    let s = state_of g in
    let answer = c.args.answer.now in
    let Made : Type 0 = State × Reply in
    let known = close-known s c.args.batch answer None (sym c.in_default.is ∙ c.not_this_batch.ensures) in
    elim c.match-take.branch [
      | in-Some-take w ↦
          let b = w.in-Some-take.snapshot in
          let sealed : g.sealed ≡ Some b = sym c.take.ensures.value ∙ w.in-Some-take.is in
          let batch = w.as_slice-batch.ensures ∙ ap (λ (b : Batch). b.riders) w.snapshot.view_is in
          let riders = w.settle.ensures.settled ∙ ap (λ l. after_answer l answer g.riders.items) batch in
          let whole : Register → Made = λ u. (state_of u, Closed) in
          let make : List BookRider → Option Batch → Made = λ rs o. (record s { riders = rs; sealed = o }, Closed) in
          let closed : State → Made = λ t. (t, Closed) in
          ap whole w.self-is ∙ ap (λ rs. make rs c.take.new.self) riders ∙ ap (make (after_answer b.riders answer g.riders.items)) c.take.ensures.after ∙
          ap closed (sym (closed-some s b answer sealed)) ∙ known
      | in_default-take w ↦
          let none : g.sealed ≡ None = sym c.take.ensures.value ∙ w.in_default-take.is in
          let refused = sym (ap (λ o. not_this_batch o c.args.batch) none) ∙ sym c.not_this_batch.ensures ∙ c.in_default.is in
          absurd cc
    ]

pub returns-clause-indexed : goal.returns-clause-indexed
returns-clause-indexed c =
    let g = c.args.self.now in
    let h = c.requires in
    elim c.match-take.branch [
      | in-Some-take w ↦
          let riders = w.settle.ensures.settled in
          let kept = answer-settled w.as_slice-batch.result.now c.args.answer.now g.pool.items g.riders.items h.riders h.pool in
          subst IsIndexed (sym w.self-is) (record {
            ids = h.ids ∙ sym (ap (map (λ r. r.id)) riders ∙ kept.ids);
            vehicle_ids = h.vehicle_ids;
            riders = subst (KeysDiffer (λ r. r.id)) (sym riders) kept.differ;
            vehicles = h.vehicles;
            pool_rise = h.pool_rise;
            pool = IsPool-same _ _ _ _ refl riders kept.listed;
            pool_room = h.pool_room;
          })
      | in_default-take w ↦
          let none : g.sealed ≡ None = sym c.take.ensures.value ∙ w.in_default-take.is in
          let refused = sym (ap (λ o. not_this_batch o c.args.batch) none) ∙ sym c.not_this_batch.ensures ∙ c.in_default.is in
          absurd cc
    ]
