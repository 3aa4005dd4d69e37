use Rattle.std.proofs.Common.{ℕ, [], map, sym, ap, subst, ◌∙◌, arith, option_and_then}
use Rattle.request_book.proofs.Common.{Vehicle, BookRider, look_up, KeysRise, KeysDiffer, pool_id, find_rider}
use Rattle.request_book.proofs.lemmas.values.KeyedLemmas.{look_up-nil, KeysDiffer-from_rise}
use Rattle.request_book.proofs.register.Register.number.Goals as goal

pub number_vehicles-requires-clause-differ : goal.number_vehicles-requires-clause-differ
number_vehicles-requires-clause-differ c =
    subst (KeysDiffer (λ (v : Vehicle). v.id)) (sym c.deref.ensures.value) (KeysDiffer-from_rise (λ (v : Vehicle). v.id) c.args.self.now.vehicles.items
    c.requires.rise)

nothing-differs : KeysDiffer (λ (r : BookRider). r.id) []
unfolding KeysDiffer
nothing-differs = tt

nothing-rises : KeysRise (λ (n : ℕ). n) []
unfolding KeysRise
nothing-rises = tt

pub returns-clause-indexed : goal.returns-clause-indexed
returns-clause-indexed c =
    let pool = c.in_ok-reserve.ensures.items ∙ c.requires.pool in
    let riders = c.requires.riders in
    record {
      ids = c.requires.ids ∙ sym (ap (map (λ (r : BookRider). r.id)) riders);
      vehicle_ids = c.in_ok-number_vehicles.ensures ∙ ap (map (λ (v : Vehicle). v.id)) c.deref.ensures.value;
      riders = subst (KeysDiffer (λ (r : BookRider). r.id)) (sym riders) nothing-differs;
      vehicles = c.requires.rise;
      pool_rise = subst (KeysRise (λ (n : ℕ). n)) (sym pool) nothing-rises;
      pool = λ id. ap (look_up (λ (n : ℕ). n) id) pool ∙ look_up-nil (λ (n : ℕ). n) id
          ∙ sym (ap (λ rs. option_and_then pool_id (find_rider id rs)) riders ∙ ap (option_and_then pool_id) (look_up-nil (λ (r : BookRider). r.id) id));
      pool_room = omega (arith, c.in_ok-reserve.ensures.ok);
    }
