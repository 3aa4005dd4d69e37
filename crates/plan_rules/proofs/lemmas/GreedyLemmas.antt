-- Greedy plans: ranks, and what taking a row keeps.
use Rattle.std.proofs.Common.{
  All,
  ◌≡◌,
  ◌⊎◌,
  ◌||◌,
  ℕ,
  ◌-◌,
  ◌<◌,
  ◌≤◌,
  Bool,
  true,
  false,
  List,
  length,
  get_or,
  set,
  Option,
  Some,
  None,
  refl,
  sym,
  ap,
  ◌∙◌,
  subst,
  inl,
  inr,
  ⊎_elim,
  arith,
  rules,
}
use Rattle.plan_rules.proofs.Common.{
  same_Some,
  none-some,
  list_any,
  ordering_then,
  nat_tests,
  cases_eq,
  cases_lt,
  or_cases,
  or_left,
  or_right,
  both_ways,
  get_or_past,
  Graph,
  riders_at,
  cost_at,
  row_vehicle,
  has_rider,
  choice_at,
  IsGoodGraph,
  IsTaken,
  IsApart,
  IsTriedBefore,
  IsGreedy,
  rank_value,
  rank_of,
  parts_of,
  AreRanks,
  IsSelection,
  IsInTheWay,
}
use Rattle.std.specs.Ordering.{nat_cmp, is_lt}
use Rattle.std.proofs.lemmas.List.{get_or-set_same, get_or-set_other, length-set}
use Rattle.plan_rules.proofs.lemmas.GraphLemmas.{rider_below}
use Rattle.plan_rules.proofs.lemmas.MarkLemmas.{any_marked, marked_one}

-- a rank that is no greater, of another row, is that of a row that is tried before
rank_order : (a b x y j k : ℕ) → a ≤ 6 → b ≤ 6 → x ≤ 1000000000 → y ≤ 1000000000 → j < 2000000 → k < 2000000 → (j ≡ k → ⊥) → rank_value a x j ≤ rank_value b y k
    → (b < a) ⊎ ((a ≡ b) × ((x < y) ⊎ ((x ≡ y) × (j < k))))
unfolding rank_value
rank_order a b x y j k la lb lx ly lj lk ne low = grind arith

pub rank_before : (g : Graph) (j k : ℕ) → IsGoodGraph g → j < length g.rows → k < length g.rows → (j ≡ k → ⊥) → rank_of g j ≤ rank_of g k → IsTriedBefore g j k
rank_before g j k good lj lk ne low = search (rules, rank_order)

-- of two triples in order the first isn't the greater
not_above : (a x j b y k : ℕ) → is_lt (ordering_then (ordering_then (nat_cmp b a) (nat_cmp y x)) (nat_cmp k j)) ≡ false →
    (a < b) ⊎ ((a ≡ b) × ((x < y) ⊎ ((x ≡ y) × (j ≤ k))))
not_above a x j b y k e = grind (arith, nat_tests)

-- the triple is what a row is sorted by
abbrev pub IsOfRow : Graph → ℕ × ℕ × ℕ → Type 0
IsOfRow g rank = (rank.2 < length g.rows) × (rank ≡ parts_of g rank.2)

-- what rows are sorted by stands in the order of their ranks
pub in_order : (g : Graph) (s t : ℕ × ℕ × ℕ) → IsGoodGraph g → IsOfRow g s → IsOfRow g t →
    is_lt (ordering_then (ordering_then (nat_cmp t.0 s.0) (nat_cmp t.1 s.1)) (nat_cmp t.2 s.2)) ≡ false → rank_of g s.2 ≤ rank_of g t.2
unfolding rank_value
in_order g s t good first second e = search (rules, not_above)

pub of_rows : (g : Graph) (ranks : List (ℕ × ℕ × ℕ)) → AreRanks g ranks → All (IsOfRow g) ranks
of_rows g ranks are k d l = search rules

-- ---- taking a row

module _ (g : Graph) (chosen : List (Option ℕ)) (served : List Bool) (row : ℕ) (good : IsGoodGraph g) (within : row < length g.rows)
    (selection : IsSelection g chosen served) (free : choice_at chosen (row_vehicle g row) ≡ None) where
  inside : row_vehicle g row < length chosen
  inside = search rules

  -- who is taken has another vehicle
  other_vehicle : (j : ℕ) → IsTaken g chosen j → row_vehicle g j ≡ row_vehicle g row → ⊥
  other_vehicle j taken e = none-some j (sym free ∙ ap (choice_at chosen) (sym e) ∙ taken)

  pub taken_stays : (j : ℕ) → IsTaken g chosen j → IsTaken g (set chosen (row_vehicle g row) (Some row)) j
  taken_stays j taken = get_or-set_other chosen (row_vehicle g row) (row_vehicle g j) (Some row) None (other_vehicle j taken) ∙ taken

  pub row_taken : IsTaken g (set chosen (row_vehicle g row) (Some row)) row
  row_taken = get_or-set_same chosen (row_vehicle g row) (Some row) None inside

  pub taken_before : (j : ℕ) → IsTaken g (set chosen (row_vehicle g row) (Some row)) j → IsTaken g chosen j ⊎ (j ≡ row)
  taken_before j taken = search (rules, same_Some, row_taken, get_or-set_other, cases_eq)

  -- a row that is taken is apart from one with no marked rider
  pub new_apart : (list_any (λ r. get_or served r false) (riders_at g row) ≡ false) → (j : ℕ) → j < length g.rows → IsTaken g chosen j → IsApart g j row
  new_apart unmarked j low taken = (
    other_vehicle j taken,
    λ r a b. both_ways _ unmarked (any_marked served (riders_at g row) r b
        (selection.serves j r low taken a)),
  )

  flip : (j : ℕ) → IsApart g j row → IsApart g row j
  flip j apart = (λ e. apart.0 (sym e), λ r a b. apart.1 r b a)

  pub selection_more : (list_any (λ r. get_or served r false) (riders_at g row) ≡ false) → (marks : List Bool) → length marks ≡ length served
      → ((r : ℕ) → r < length served → get_or marks r false ≡ (get_or served r false || has_rider g row r))
      → IsSelection g (set chosen (row_vehicle g row) (Some row)) marks
  selection_more unmarked marks len marked = record {
    sized = length-set chosen (row_vehicle g row) (Some row) ∙ selection.sized;
    marked = len ∙ selection.marked;
    own = λ v k low e.
        ⊎_elim
        (λ (here : v ≡ row_vehicle g row).
        let same : k ≡ row = same_Some k row (sym e ∙ ap (choice_at (set chosen (row_vehicle g row) (Some row))) here ∙ row_taken) in
        record { within = subst (λ (q : ℕ). q < length g.rows) (sym same) within; own = ap (row_vehicle g) same ∙ sym here })
        (λ (other : v ≡ row_vehicle g row → ⊥).
        selection.own v k low (sym (get_or-set_other chosen (row_vehicle g row) v (Some row) None other) ∙ e))
        (cases_eq v (row_vehicle g row));
    apart = λ j k lj lk ne a b.
        ⊎_elim
        (λ (old_j : IsTaken g chosen j).
        ⊎_elim
        (λ (old_k : IsTaken g chosen k). selection.apart j k lj lk ne old_j old_k)
        (λ (new_k : k ≡ row). subst (IsApart g j) (sym new_k) (new_apart unmarked j lj old_j))
        (taken_before k b))
        (λ (new_j : j ≡ row).
        ⊎_elim
        (λ (old_k : IsTaken g chosen k). subst (λ (q : ℕ). IsApart g q k) (sym new_j) (flip k (new_apart unmarked k lk old_k)))
        (λ (new_k : k ≡ row). absurd (ne (new_j ∙ sym new_k)))
        (taken_before k b))
        (taken_before j a);
    serves = λ j r lj a e.
        let low : r < g.riders = rider_below g j r (good.rows j lj) e in
        let sized : length served ≡ g.riders = selection.marked in
        let now : get_or marks r false ≡ (get_or served r false || has_rider g row r) = marked r (omega arith) in
        ⊎_elim
        (λ (old : IsTaken g chosen j). now ∙ or_left (get_or served r false) (has_rider g row r) (selection.serves j r lj old e))
        (λ (new : j ≡ row). now ∙ or_right (get_or served r false) (has_rider g row r) (subst (λ (q : ℕ). has_rider g q r ≡ true) new e))
        (taken_before j a);
    served_by = λ r e.
        ⊎_elim
        (λ (low : r < length served).
        ⊎_elim
        (λ (old : get_or served r false ≡ true).
        let w = selection.served_by r old in
        (w.0, w.1, taken_stays (w.0) (w.2), w.3))
        (λ (new : has_rider g row r ≡ true). (row, within, row_taken, new))
        (or_cases (get_or served r false) (has_rider g row r) (sym (marked r low) ∙ e)))
        (λ (high : length served ≤ r).
        absurd (both_ways false refl (sym (get_or_past marks r false (omega (arith, len, high))) ∙ e)))
        (cases_lt r (length served));
  }

-- a vehicle that has a row already, or a rider of the row who is served already, is in the way
pub way_by_vehicle : (g : Graph) (chosen : List (Option ℕ)) (served : List Bool) (row k : ℕ) → IsGoodGraph g → row < length g.rows →
    IsSelection g chosen served → choice_at chosen (row_vehicle g row) ≡ Some k → IsInTheWay g chosen row
way_by_vehicle g chosen served row k good within selection e =
    let low : row_vehicle g row < g.vehicles = (good.rows row within).vehicle in
    let own = selection.own (row_vehicle g row) k low e in
    record {
      other = k;
      within = own.within;
      taken = ap (choice_at chosen) own.own ∙ e;
      conflict = λ apart. apart.0 own.own;
    }

pub way_by_rider : (g : Graph) (chosen : List (Option ℕ)) (served : List Bool) (row : ℕ) → IsSelection g chosen served →
    list_any (λ r. get_or served r false) (riders_at g row) ≡ true → IsInTheWay g chosen row
way_by_rider g chosen served row selection e = search (rules, marked_one)

-- ---- the whole ranking

-- the rows taken along a ranking are the greedy plan
pub greedy_from : (g : Graph) (chosen : List (Option ℕ)) (served : List Bool) → IsGoodGraph g → IsSelection g chosen served
    → ((k : ℕ) → k < length g.rows → ((j : ℕ) → j < length g.rows → IsTriedBefore g j k → IsTaken g chosen j → IsApart g j k) → IsTaken g chosen k) →
    IsGreedy g chosen
greedy_from g chosen served good selection settled = record {
  sized = selection.sized;
  own = selection.own;
  taken = λ k l. (λ b j lj before a. selection.apart j k lj l (λ (e : j ≡ k). not_before_itself g j k e before) a b, settled k l);
}
  where
    not_before_itself : (g : Graph) (j k : ℕ) → j ≡ k → IsTriedBefore g j k → ⊥
    not_before_itself g j k e before =
        let sizes : length (riders_at g j) ≡ length (riders_at g k) = ap (λ (q : ℕ). length (riders_at g q)) e in
        let costs : cost_at g j ≡ cost_at g k = ap (cost_at g) e in
        omega (arith, before)

-- one more row of the ranking is settled
pub settled_more : (g : Graph) (old new : List (Option ℕ)) (row : ℕ) → IsGoodGraph g → row < length g.rows
    → ((j : ℕ) → j < length g.rows → IsTaken g old j → rank_of g j ≤ rank_of g row)
    → ((j : ℕ) → IsTaken g old j → IsTaken g new j)
    → IsTaken g new row ⊎ IsInTheWay g old row
    → ((j : ℕ) → j < length g.rows → IsTriedBefore g j row → IsTaken g new j → IsApart g j row) → IsTaken g new row
settled_more g old new row good within earlier keeps (inl taken) apart = taken
settled_more g old new row good within earlier keeps (inr way) apart = search (rules, rank_before, cases_eq)
