use Rattle.std.proofs.Common.{◌≡◌, ℕ, List, map, sym, ap, subst, ◌∙◌}
use Rattle.request_book.proofs.Common.{Batch, IsKept, Rider, Vehicle, state_of, by_key, batch_of, after_seal, asking, one_more}
use Rattle.std.specs.List.{filter_map}
use Rattle.request_book.proofs.lemmas.register.BatchLemmas.{batch-riders, batch-expired, batch-kept}
use Rattle.request_book.proofs.register.Register.snapshot.Goals.{After-of-3}
use Rattle.request_book.proofs.register.Register.snapshot.Goals as goal

batch_is : (c : After-of-3) → (record {
  number = c.one_more.result;
  sealed_at = c.args.second;
  vehicles = c.of.result;
  riders = c.of-2.result;
  expired =
      c.of-3.result;
}) ≡ batch_of c.args.wait (state_of c.args.self.now) c.args.second
unfolding batch_of
batch_is c =
    let g = c.args.self.now in
    let h = c.requires.indexed in
    let second = c.args.second in
    let make : ℕ → List Vehicle → List Rider → List ℕ → Batch = λ n vs rs es. record {
      number = n;
      sealed_at = second;
      vehicles = vs;
      riders = rs;
      expired =
          es;
    } in
    let vehicles = c.of.ensures ∙ c.in_ok-vehicles.ensures ∙ c.deref.ensures.value in
    let riders = c.of-2.ensures ∙ c.in_ok-part.ensures.asking ∙ batch-riders c.args.wait second g.pool.items g.riders.items h.pool_rise h.riders h.pool in
    let expired = c.of-3.ensures ∙ c.in_ok-part.ensures.over ∙ batch-expired c.args.wait second g.pool.items g.riders.items h.pool_rise h.riders h.pool in
    ap (λ n. make n c.of.result c.of-2.result c.of-3.result) c.one_more.ensures
    ∙ ap (λ vs. make (one_more g.batches) vs c.of-2.result c.of-3.result) vehicles
    ∙ ap (λ rs. make (one_more g.batches) g.vehicles.items rs c.of-3.result) riders
    ∙ ap (λ es. make (one_more g.batches) g.vehicles.items
    (by_key (λ (r : Rider). r.id) (filter_map (asking second) (map (after_seal c.args.wait second) g.riders.items))) es) expired

pub invariant_of-result : goal.invariant_of-result
invariant_of-result c = subst IsKept (sym (batch_is c)) (batch-kept c.args.wait c.args.second (state_of c.args.self.now) c.requires.consistent)

pub returns : goal.returns
returns c = batch_is c
