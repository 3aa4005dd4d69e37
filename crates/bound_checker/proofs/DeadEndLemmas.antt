-- Sole rows of vehicles, and riders who stand in usable rows.
use Rattle.std.proofs.Common.{
  ◌≡◌,
  ◌||◌,
  ℕ,
  ◌+◌,
  ◌<◌,
  ◌≤◌,
  Bool,
  true,
  false,
  MatchBool,
  MatchOption,
  List,
  length,
  get_or,
  Option,
  Some,
  None,
  refl,
  sym,
  ap,
  ◌∙◌,
  subst,
  ⊎_elim,
  arith,
}
use Rattle.bound_checker.proofs.Common.{
  same_Some,
  none-some,
  false≢true,
  cases_lt,
  both_ways,
  get_or_past,
  Graph,
  riders_at,
  row_vehicle,
  has_rider,
  choice_at,
  must_be_served,
  IsGoodGraph,
  Usable,
  IsSoleRow,
  IsClash,
  IsStranded,
  IsDeadEnd,
  Clash,
  AreSoleRows,
  ShareARider,
  IsApart,
  StandsInSome,
  StandsInNone,
  MarksStanding,
}
use Rattle.plan_rules.proofs.lemmas.PlanLemmas.{must_below}

pub when_true : (b : Bool) (A B : Type 0) → b ≡ true → MatchBool b A B → A
when_true true A B e a = a
when_true false A B e b = absurd (false≢true e)

pub when_false : (b : Bool) (A B : Type 0) → b ≡ false → MatchBool b A B → B
when_false true A B e a = absurd (false≢true (sym e))
when_false false A B e b = b

-- ---- sole rows

pub below_end : (sole : List (Option ℕ)) (v k : ℕ) → choice_at sole v ≡ Some k → v < length sole
below_end sole v k e =
    ⊎_elim (λ (low : v < length sole). low) (λ (high : length sole ≤ v). absurd (none-some k (sym (get_or_past sole v None high) ∙ e)))
    (cases_lt v (length sole))

sole_at : (g : Graph) (usable : Usable) (n : ℕ) (sole : List (Option ℕ)) (v k : ℕ) → AreSoleRows g usable n sole → choice_at sole v ≡ Some k →
    IsSoleRow g usable v k
sole_at g usable n sole v k are e =
    subst (λ (p : Option ℕ). MatchOption p ((j : ℕ) → IsSoleRow g usable v j → ⊥) (IsSoleRow g usable v)) e
    (are.each v (omega (arith, below_end sole v k e, are.sized)))

sole_found : (g : Graph) (usable : Usable) (v k : ℕ) (o : Option ℕ) → MatchOption o ((j : ℕ) → IsSoleRow g usable v j → ⊥) (IsSoleRow g usable v) →
    IsSoleRow g usable v k → o ≡ Some k
sole_found g usable v k None is sole = absurd (is k sole)
sole_found g usable v k (Some j) is sole = ap Some (sole.sole j is.row)

-- ---- clashes

pub clash_of : (g : Graph) (usable : Usable) (n : ℕ) (sole : List (Option ℕ)) (v w : ℕ) → AreSoleRows g usable n sole → v < w → ShareARider g sole v w →
    IsDeadEnd g usable
clash_of g usable n sole v w are below share =
    Clash v w share.one share.other share.rider (λ (e : v ≡ w). omega (arith, below, e)) (sole_at g usable n sole v share.one are share.first)
    (sole_at g usable n sole w share.other are share.second) share.in_first share.in_second

pub no_clash : (g : Graph) (usable : Usable) (sole : List (Option ℕ)) → IsGoodGraph g → AreSoleRows g usable g.vehicles sole →
    ((v w : ℕ) → v < w → ShareARider g sole v w → ⊥) → IsClash g usable → ⊥
no_clash g usable sole good are apart c =
    ⊎_elim
    (λ (below : c.first < c.second). apart c.first c.second below (record {
      one = c.first_row;
      other = c.second_row;
      rider = c.rider;
      first = first;
      second =
          second;
      in_first = c.in_first;
      in_second = c.in_second;
    }))
    (λ (above : c.second ≤ c.first).
    let below : c.second < c.first = omega (arith, above, c.differ) in
    apart c.second c.first below (record {
      one = c.second_row;
      other = c.first_row;
      rider = c.rider;
      first = second;
      second = first;
      in_first =
          c.in_second;
      in_second = c.in_first;
    }))
    (cases_lt c.first c.second)
  where
    low : (v k : ℕ) → IsSoleRow g usable v k → v < g.vehicles
    low v k sole =
        let below : row_vehicle g k < g.vehicles = (good.rows k sole.row.row.within).vehicle in
        let own : row_vehicle g k ≡ v = sole.row.row.own in
        omega arith

    first : choice_at sole c.first ≡ Some c.first_row
    first = sole_found g usable c.first c.first_row (choice_at sole c.first) (are.each c.first (low c.first c.first_row c.first_sole)) c.first_sole

    second : choice_at sole c.second ≡ Some c.second_row
    second = sole_found g usable c.second c.second_row (choice_at sole c.second) (are.each c.second (low c.second c.second_row c.second_sole)) c.second_sole

pub none_second : (g : Graph) (sole : List (Option ℕ)) (v w : ℕ) → choice_at sole w ≡ None → ShareARider g sole v w → ⊥
none_second g sole v w e share = none-some share.other (sym e ∙ share.second)

pub apart_rows : (g : Graph) (sole : List (Option ℕ)) (v w j k : ℕ) → choice_at sole v ≡ Some j → choice_at sole w ≡ Some k →
    IsApart (riders_at g j) (riders_at g k) → ShareARider g sole v w → ⊥
apart_rows g sole v w j k one other apart share =
    apart share.rider
    (subst (λ (q : ℕ). has_rider g q share.rider ≡ true) (same_Some share.one j (sym share.first ∙ one)) share.in_first)
    (subst (λ (q : ℕ). has_rider g q share.rider ≡ true) (same_Some share.other k (sym share.second ∙ other)) share.in_second)

-- ---- stranded riders

-- a row that may not be used changes nothing
pub row_unmarked : (g : Graph) (usable : Usable) (n : ℕ) (marks : List Bool) → usable n ≡ false → MarksStanding g usable n marks →
    MarksStanding g usable (n + 1) marks
row_unmarked g usable n marks out are = record { sized = are.sized; each = λ r l. stands (get_or marks r false) r (are.each r l) }
  where
    stands : (b : Bool) (r : ℕ) → MatchBool b (StandsInSome g usable n r) (StandsInNone g usable n r) →
        MatchBool b (StandsInSome g usable (n + 1) r) (StandsInNone g usable (n + 1) r)
    stands true r some = (some.0, omega (arith, some.1), some.2, some.3)
    stands false r none = λ k below may.
        ⊎_elim (λ (low : k < n). none k low may)
        (λ (high : n ≤ k). absurd (false≢true (sym out ∙ subst (λ (j : ℕ). usable j ≡ true) (omega (arith, below, high)) may))) (cases_lt k n)

-- the riders of one that may be used stand in it
pub row_marked : (g : Graph) (usable : Usable) (n : ℕ) (old new : List Bool) → usable n ≡ true → length new ≡ length old →
    ((r : ℕ) → r < length old → get_or new r false ≡ (get_or old r false || has_rider g n r))
    → MarksStanding g usable n old → MarksStanding g usable (n + 1) new
row_marked g usable n old new may sized marked are = record {
  sized = sized ∙ are.sized;
  each = λ r l. subst (λ (b : Bool). MatchBool b (StandsInSome g usable (n + 1) r) (StandsInNone g usable (n + 1) r))
      (sym (marked r (omega (arith, l, are.sized)))) (stands (get_or old r false) (has_rider g n r) r refl (are.each r l));
}
  where
    stands : (b has : Bool) (r : ℕ) → has_rider g n r ≡ has → MatchBool b (StandsInSome g usable n r) (StandsInNone g usable n r) →
        MatchBool (b || has) (StandsInSome g usable (n + 1) r) (StandsInNone g usable (n + 1) r)
    stands true has r e some = (some.0, omega (arith, some.1), some.2, some.3)
    stands false true r e none = (n, omega arith, may, e)
    stands false false r e none = λ k below usable_there.
        ⊎_elim (λ (low : k < n). none k low usable_there) (λ (high : n ≤ k). subst (λ (j : ℕ). has_rider g j r ≡ false) (omega (arith, below, high)) e)
        (cases_lt k n)

pub not_stranded : (g : Graph) (usable : Usable) (marks : List Bool) → IsGoodGraph g → ((r : ℕ) → r < g.riders → must_be_served g r ≡ true →
    get_or marks r false ≡ true) → MarksStanding g usable (length g.rows) marks → IsStranded g usable → ⊥
not_stranded g usable marks good all are s =
    let low : s.rider < g.riders = must_below g s.rider good s.must in
    let some : StandsInSome g usable (length g.rows) s.rider =
    subst (λ (b : Bool). MatchBool b (StandsInSome g usable (length g.rows) s.rider) (StandsInNone g usable (length g.rows) s.rider)) (all s.rider low s.must)
    (are.each s.rider low) in
    both_ways _ (s.nowhere (some.0) (some.1) (some.2)) (some.3)
