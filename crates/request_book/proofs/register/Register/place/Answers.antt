use Rattle.std.proofs.Common.{ℕ, ◌∷◌, [], ◌++◌, Bool, map, refl, sym, ap, subst, ◌∙◌, arith, is_some, option_and_then, ◌==◌}
use Rattle.request_book.proofs.Common.{list_any, map-append, State, BookRider, KeysDiffer, KeysRise, state_of, pool_id, is_active}
use Rattle.request_book.proofs.lemmas.values.KeyedLemmas.{look_up-list_any, KeysDiffer-push}
use Rattle.request_book.proofs.lemmas.register.IndexLemmas.{IsPool-entered, IsPool-same, rise-entered, length-pool}
use Rattle.request_book.proofs.register.Register.place.Goals as goal

pub number-requires-clause-new : goal.number-requires-clause-new
number-requires-clause-new c =
    let g = c.args.self.now in
    let r = c.args.new.now in
    let test : ℕ → Bool = λ id. id == r.id in
    ap (list_any test) c.requires.indexed.ids ∙ look_up-list_any (λ x. x.id) r.id test (λ j. refl) g.riders.items ∙ ap is_some c.requires.new

pub join_if_active-requires-clause-new : goal.join_if_active-requires-clause-new
join_if_active-requires-clause-new c = c.requires.indexed.pool c.args.new.now.id ∙ ap (option_and_then pool_id) c.requires.new

pub join_if_active-requires-clause-room : goal.join_if_active-requires-clause-room
join_if_active-requires-clause-room c active =
    let g = c.args.self.now in
    let h = c.requires.indexed in
    omega (arith, c.requires.pool_room active, h.pool_room, g.pool.ok.0, length-pool g.pool.items g.riders.items h.pool_rise h.riders h.pool)

pub returns-clause-indexed : goal.returns-clause-indexed
returns-clause-indexed c =
    let g = c.args.self.now in
    let h = c.requires.indexed in
    let r = c.args.new.now in
    let rs = g.riders.items in
    let items = c.join_if_active.ensures.items in
    record {
      ids = c.number.ensures.names ∙ ap (λ ks. ks ++ r.id ∷ []) h.ids ∙ sym (ap (map (λ x. x.id)) c.add.ensures.items ∙ map-append (λ x. x.id) rs (r ∷ []));
      vehicle_ids = h.vehicle_ids;
      riders = subst (KeysDiffer (λ x. x.id)) (sym c.add.ensures.items) (KeysDiffer-push (λ x. x.id) r rs h.riders c.requires.new);
      vehicles = h.vehicles;
      pool_rise = subst (KeysRise (λ (n : ℕ). n)) (sym items) (rise-entered (is_active r.status) g.pool.items r.id h.pool_rise
          (h.pool r.id ∙ ap (option_and_then pool_id) c.requires.new));
      pool = IsPool-same _ _ _ _ items c.add.ensures.items (IsPool-entered g.pool.items rs r c.requires.new h.pool);
      pool_room = omega (arith, h.pool_room, c.join_if_active.ensures.room);
    }
