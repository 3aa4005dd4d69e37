use Rattle.std.proofs.Common.{◌≡◌, ℕ, ◌+◌, ◌<◌, ◌≤◌, ◌==◌, cond, List, length, slice_index, get_or, set, count_by, sym, ap, inl, inr, arith}
use Rattle.rebalancing.proofs.Common.{cases_lt, get_or_read, sum_by-set, pair_worth, root_of, IsNearest}
use Rattle.std.proofs.lemmas.Bool.{ne_eqb}
use Rattle.rebalancing.proofs.Augmenting.{IsOpen-free}
use Rattle.rebalancing.proofs.matching.Matching.insert.Goals as goal

-- where the slack is below the price of the tree's cheapest vehicle, the nearest rider is one
nearest_within : (n m : ℕ) (a r ta : List ℕ) (cheapest vehicle price slack nearest : ℕ) → length a ≡ n → ((i : ℕ) → i < n → slice_index a i ≤ pair_worth) →
    cheapest < length r → slice_index r cheapest < n
    → vehicle ≡ get_or r cheapest vehicle → price ≡ get_or a vehicle price → length ta ≡ m → (length ta ≤ nearest → slack ≡ 18446744073709551615) →
    slack < price → nearest < m
nearest_within n m a r ta cheapest vehicle price slack nearest long most inside known at_vehicle at_price tight none less =
    let within : vehicle < n = rw (get_or_read r cheapest vehicle inside at_vehicle 0) known in
    let is : price ≡ slice_index a vehicle = get_or_read a vehicle price (rw long within) at_price 0 in
    elim (cases_lt nearest m) as (λ _. nearest < m) [ inl lt ↦ lt | inr ge ↦ absurd (omega (arith, none (omega arith), is, most vehicle within)) ]

-- the price that is read is that of the tree's cheapest vehicle
price_is : (n : ℕ) (a r : List ℕ) (cheapest vehicle price : ℕ) → length a ≡ n → cheapest < length r → slice_index r cheapest < n →
    vehicle ≡ get_or r cheapest vehicle → price ≡ get_or a vehicle price → price ≡ slice_index a (slice_index r cheapest)
price_is n a r cheapest vehicle price long inside known at_vehicle at_price =
    let is : vehicle ≡ slice_index r cheapest = get_or_read r cheapest vehicle inside at_vehicle 0 in
    rw (sym is) (get_or_read a vehicle price (rw (is, long) known) at_price 0)

-- prices that fall by no more than the slack leave no rider behind
none_past : (m : ℕ) (place ta : List ℕ) (nearest lowered slack by : ℕ) → IsNearest m place ta nearest → length ta ≡ m →
    (nearest < length ta → lowered + slack ≡ slice_index ta nearest) → by ≤ slack → (j : ℕ) → j < m → slice_index place j ≡ 0 → lowered + by ≤ slice_index ta j
none_past m place ta nearest lowered slack by next long some le j h out = omega (arith, next.least j h out, some (rw long (next.first j h out)), le)

pub shift-requires-clause-priced : goal.shift-requires-clause-priced
shift-requires-clause-priced c = rw c.search.invariant.tree.grown.tree.root c.search.invariant.priced

pub shift-requires-clause-tree : goal.shift-requires-clause-tree
shift-requires-clause-tree c = rw c.search.invariant.tree.grown.tree.root c.search.invariant.tree

pub shift-requires-clause-enough : goal.shift-requires-clause-enough
shift-requires-clause-enough c =
    let t = c.search.tree in
    let inv = c.search.invariant in
    omega (
      arith,
      price_is _ _ t.vehicles.items t.cheapest _ _ inv.priced.prices.a_length inv.tree.cheapest.within
          (inv.tree.grown.tree.vehicle t.cheapest inv.tree.cheapest.within) c.index.ensures c.index-price.ensures,
    )

pub shift-requires-clause-not_past : goal.shift-requires-clause-not_past
shift-requires-clause-not_past c =
    let inv = c.search.invariant in
    none_past _ _ _ c.search.nearest _ c.slack-slack.result _ inv.next inv.tree.reached.tight_length c.slack-slack.ensures.some c.if-price-slack.true

pub release-requires-clause-priced : goal.release-requires-clause-priced
release-requires-clause-priced c =
    let root : root_of c.shift.new.tree ≡ root_of c.search.tree = ap root_of c.shift.ensures.lowered_alone in
    rw root c.shift.ensures.priced

pub release-requires-clause-tree : goal.release-requires-clause-tree
release-requires-clause-tree c =
    let root : root_of c.shift.new.tree ≡ root_of c.search.tree = ap root_of c.shift.ensures.lowered_alone in
    rw root c.shift.ensures.tree

pub release-requires-clause-price : goal.release-requires-clause-price
release-requires-clause-price c =
    let t = c.search.tree in
    let inv = c.search.invariant in
    let price = price_is _ _ t.vehicles.items t.cheapest _ _ inv.priced.prices.a_length inv.tree.cheapest.within
    (inv.tree.grown.tree.vehicle t.cheapest inv.tree.cheapest.within) c.index.ensures c.index-price.ensures in
    rw c.shift.ensures.lowered_alone (omega (arith, price, c.shift.ensures.price))

pub shift-requires-in-search-clause-priced : goal.shift-requires-in-search-clause-priced
shift-requires-in-search-clause-priced c = rw c.search.invariant.tree.grown.tree.root c.search.invariant.priced

pub shift-requires-in-search-clause-tree : goal.shift-requires-in-search-clause-tree
shift-requires-in-search-clause-tree c = rw c.search.invariant.tree.grown.tree.root c.search.invariant.tree

pub shift-requires-in-search-clause-enough : goal.shift-requires-in-search-clause-enough
shift-requires-in-search-clause-enough c =
    let t = c.search.tree in
    let inv = c.search.invariant in
    omega (
      arith,
      c.if-price-slack.false,
      price_is _ _ t.vehicles.items t.cheapest _ _ inv.priced.prices.a_length inv.tree.cheapest.within
          (inv.tree.grown.tree.vehicle t.cheapest inv.tree.cheapest.within) c.index.ensures c.index-price.ensures,
    )

pub shift-requires-in-search-clause-not_past : goal.shift-requires-in-search-clause-not_past
shift-requires-in-search-clause-not_past c =
    let inv = c.search.invariant in
    none_past _ _ _ c.search.nearest _ c.slack-slack.result _ inv.next inv.tree.reached.tight_length c.slack-slack.ensures.some (omega arith)

pub grow-requires : goal.grow-requires
grow-requires c =
    let t = c.search.tree in
    let inv = c.search.invariant in
    let shift = c.shift-in-search in
    let within : c.search.nearest < c.search.self.riders = nearest_within _ _ _ t.vehicles.items t.tight_at.items t.cheapest _ _ _ c.search.nearest
    inv.priced.prices.a_length inv.priced.prices.a_most inv.tree.cheapest.within
    (inv.tree.grown.tree.vehicle t.cheapest inv.tree.cheapest.within) c.index.ensures c.index-price.ensures inv.tree.reached.tight_length
    c.slack-slack.ensures.none c.if-price-slack.false in
    let slack : t.lowered + c.slack-slack.result ≡ slice_index t.tight_at.items c.search.nearest =
    c.slack-slack.ensures.some (omega (arith, inv.tree.reached.tight_length, within)) in
    let within' : c.search.nearest < shift.new.self.riders = rw shift.ensures.prices_alone within in
    let partner : c.index-in-search.result.now ≡ slice_index shift.new.self.vehicle_of.items c.search.nearest =
    get_or_read shift.new.self.vehicle_of.items c.search.nearest c.index-in-search.result.now (rw shift.ensures.priced.p_length within')
    c.index-in-search.ensures 0 in
    let root : root_of shift.new.tree ≡ root_of t = ap root_of shift.ensures.lowered_alone in
    record {
      sized = rw shift.ensures.prices_alone (record { few_vehicles = inv.sized.few_vehicles; few_riders = inv.sized.few_riders; table = inv.sized.table });
      priced = rw root shift.ensures.priced;
      tree = rw root shift.ensures.tree;
      within = within';
      outside = rw shift.ensures.lowered_alone (inv.next.outside within);
      tight = rw shift.ensures.lowered_alone (sym slack);
      matched = omega (arith, partner, shift.ensures.priced.p_most c.search.nearest within', c.if-index-self.false);
    }

pub search-preserved : goal.search-preserved
search-preserved c =
    let inv = c.search.invariant in
    let shift = c.shift-in-search.ensures in
    let grow = c.in_ok-nearest-2.ensures in
    let start = inv.tree.grown.tree.root in
    let root : root_of c.shift-in-search.new.tree ≡ root_of c.search.tree = ap root_of shift.lowered_alone in
    record {
      sized = rw shift.prices_alone (record { few_vehicles = inv.sized.few_vehicles; few_riders = inv.sized.few_riders; table = inv.sized.table });
      priced = rw start at shift.priced;
      tree = rw (root, start) at grow.tree;
      next = grow.nearest;
      same = rw shift.prices_alone (record { vehicles = inv.same.vehicles; riders = inv.same.riders; weights = inv.same.weights });
    }

pub augment-requires : goal.augment-requires
augment-requires c =
    let t = c.search.tree in
    let inv = c.search.invariant in
    let shift = c.shift-in-search in
    let within : c.search.nearest < c.search.self.riders = nearest_within _ _ _ t.vehicles.items t.tight_at.items t.cheapest _ _ _ c.search.nearest
    inv.priced.prices.a_length inv.priced.prices.a_most inv.tree.cheapest.within
    (inv.tree.grown.tree.vehicle t.cheapest inv.tree.cheapest.within) c.index.ensures c.index-price.ensures inv.tree.reached.tight_length
    c.slack-slack.ensures.none c.if-price-slack.false in
    let slack : t.lowered + c.slack-slack.result ≡ slice_index t.tight_at.items c.search.nearest =
    c.slack-slack.ensures.some (omega (arith, inv.tree.reached.tight_length, within)) in
    let within' : c.search.nearest < shift.new.self.riders = rw shift.ensures.prices_alone within in
    let tight : slice_index shift.new.tree.tight_at.items c.search.nearest ≡ shift.new.tree.lowered = rw shift.ensures.lowered_alone (sym slack) in
    let outside : slice_index shift.new.tree.place.items c.search.nearest ≡ 0 = rw shift.ensures.lowered_alone (inv.next.outside within) in
    let partner : c.index-in-search.result.now ≡ slice_index shift.new.self.vehicle_of.items c.search.nearest =
    get_or_read shift.new.self.vehicle_of.items c.search.nearest c.index-in-search.result.now (rw shift.ensures.priced.p_length within')
    c.index-in-search.ensures 0 in
    let free : shift.new.self.vehicles ≤ slice_index shift.new.self.vehicle_of.items c.search.nearest = omega (arith, partner, c.if-index-self.true) in
    let position : c.index-position.result.now ≡ slice_index shift.new.tree.parent_of.items c.search.nearest =
    get_or_read shift.new.tree.parent_of.items c.search.nearest c.index-position.result.now (rw shift.ensures.tree.reached.of_length within')
    c.index-position.ensures 0 in
    let root : root_of shift.new.tree ≡ root_of t = ap root_of shift.ensures.lowered_alone in
    record {
      between = rw (root, position) (IsOpen-free shift.ensures.priced shift.ensures.tree.grown shift.ensures.tree.reached within' outside tight free);
    }

pub search-smaller : goal.search-smaller
search-smaller c =
    let t = c.search.tree in
    let inv = c.search.invariant in
    let shift = c.shift-in-search in
    let grow = c.in_ok-nearest-2.ensures in
    let within : c.search.nearest < c.search.self.riders = nearest_within _ _ _ t.vehicles.items t.tight_at.items t.cheapest _ _ _ c.search.nearest
    inv.priced.prices.a_length inv.priced.prices.a_most inv.tree.cheapest.within
    (inv.tree.grown.tree.vehicle t.cheapest inv.tree.cheapest.within) c.index.ensures c.index-price.ensures inv.tree.reached.tight_length
    c.slack-slack.ensures.none c.if-price-slack.false in
    let places : c.grow.new.tree.place.items ≡ set t.place.items c.search.nearest (length t.vehicles.items) = rw shift.ensures.lowered_alone at grow.place in
    let was : slice_index t.place.items c.search.nearest ≡ 0 = inv.next.outside within in
    let positive : 0 < length t.vehicles.items = inv.tree.grown.rooted in
    let written : count_by (λ x. x == 0) (set t.place.items c.search.nearest (length t.vehicles.items)) + cond (slice_index t.place.items c.search.nearest == 0)
    1 0 ≡ count_by (λ x. x == 0) t.place.items + cond (length t.vehicles.items == 0) 1 0 =
    sum_by-set (λ (x : ℕ). cond (x == 0) 1 0) t.place.items c.search.nearest (length t.vehicles.items) 0 (rw inv.tree.grown.place_length within) in
    let counted : count_by (λ x. x == 0) (set t.place.items c.search.nearest (length t.vehicles.items)) + 1 ≡ count_by (λ x. x == 0) t.place.items + 0 =
    rw (was, ne_eqb (length t.vehicles.items) 0 (λ e. omega arith)) at written in
    rw places (omega (arith, counted))
