-- Marks on riders of usable and of sole rows.
use Rattle.std.proofs.Common.{◌≡◌, ◌⊎◌, ℕ, ◌+◌, ◌<◌, Bool, true, false, List, length, get_or, sym, ◌∙◌, subst, ⊎_elim, arith, rules}
use Rattle.plan_rules.proofs.Common.{
  list_any,
  cases_eq,
  or_cases,
  or_right,
  both_ways,
  get_or_past,
  Graph,
  row_at,
  riders_at,
  has_rider,
  must_be_served,
  IsGraphRow,
  IsGoodGraph,
  Usable,
  IsSoleRow,
  IsClash,
  IsStranded,
  StandsInSome,
  MarksSole,
}
use Rattle.plan_rules.proofs.lemmas.GraphLemmas.{rider_below, vehicle_below}
use Rattle.plan_rules.proofs.lemmas.PlanLemmas.{must_below}
use Rattle.plan_rules.proofs.lemmas.MarkLemmas.{IsMarking, any_marked, marked_one}

pub marks_from : (g : Graph) (k : ℕ) (old new : List Bool) (r : ℕ) → IsMarking old new (riders_at g k) → get_or new r false ≡ true →
    (get_or old r false ≡ true) ⊎ (has_rider g k r ≡ true)
marks_from g k old new r adds e = search (rules, or_cases, get_or_past)

pub marks_old : (g : Graph) (k : ℕ) (old new : List Bool) (r : ℕ) → IsMarking old new (riders_at g k) → get_or old r false ≡ true → get_or new r false ≡ true
marks_old g k old new r adds e = grind (arith, adds.marked r, get_or_past old r false)

pub marks_new : (g : Graph) (k : ℕ) (old new : List Bool) (r : ℕ) → IsMarking old new (riders_at g k) → length old ≡ g.riders →
    IsGraphRow g.vehicles g.riders (row_at g k) → has_rider g k r ≡ true → get_or new r false ≡ true
marks_new g k old new r adds sized row e = search (rules, rider_below, or_right)

-- ---- usable rows

pub not_stranded : (g : Graph) (usable : Usable) → IsGoodGraph g → ((r : ℕ) → r < g.riders → must_be_served g r ≡ true →
    StandsInSome g usable (length g.rows) r) → IsStranded g usable → ⊥
not_stranded g usable good all s = search (rules, must_below, both_ways)

-- ---- sole rows

pub sole_kept : (g : Graph) (usable : Usable) (n : ℕ) (marks : List Bool) → ((k : ℕ) → IsSoleRow g usable n k → ⊥) → MarksSole g usable n marks →
    MarksSole g usable (n + 1) marks
sole_kept g usable n marks none before = record {
  from_sole = λ r e. let w = before.from_sole r e in (w.0, w.1, omega (arith, w.2), w.3, w.4);
  of_sole = λ v k r l sole e.
      ⊎_elim
      (λ (here : v ≡ n). absurd (none k (subst (λ (q : ℕ). IsSoleRow g usable q k) here sole)))
      (λ (other : v ≡ n → ⊥). before.of_sole v k r (omega (arith, l)) sole e)
      (cases_eq v n);
  apart = λ v w j k r l m differ a b d e.
      ⊎_elim
      (λ (here : v ≡ n). absurd (none j (subst (λ (q : ℕ). IsSoleRow g usable q j) here a)))
      (λ (other : v ≡ n → ⊥).
      ⊎_elim
      (λ (there : w ≡ n). absurd (none k (subst (λ (q : ℕ). IsSoleRow g usable q k) there b)))
      (λ (apart : w ≡ n → ⊥). before.apart v w j k r (omega (arith, l)) (omega (arith, m)) differ a b d e)
      (cases_eq w n))
      (cases_eq v n);
}

pub sole_more : (g : Graph) (usable : Usable) (n k : ℕ) (old new : List Bool) → IsMarking old new (riders_at g k) → length old ≡ g.riders →
    IsGraphRow g.vehicles g.riders (row_at g k) → IsSoleRow g usable n k → (list_any (λ q. get_or old q false) (riders_at g k) ≡ false) →
    MarksSole g usable n old → MarksSole g usable (n + 1) new
sole_more g usable n k old new adds sized row here unmarked before = record {
  from_sole = λ r e.
      ⊎_elim
      (λ (was : get_or old r false ≡ true). let w = before.from_sole r was in (w.0, w.1, omega (arith, w.2), w.3, w.4))
      (λ (new_one : has_rider g k r ≡ true). (n, k, omega arith, here, new_one))
      (marks_from g k old new r adds e);
  of_sole = λ v j r l sole e.
      ⊎_elim
      (λ (last : v ≡ n). marks_new g k old new r adds sized row (subst (λ (q : ℕ). has_rider g q r ≡ true) (is_it v j last sole) e))
      (λ (other : v ≡ n → ⊥). marks_old g k old new r adds (before.of_sole v j r (omega (arith, l)) sole e))
      (cases_eq v n);
  apart = λ v w i j r l m differ a b d e.
      ⊎_elim
      (λ (first : v ≡ n).
      ⊎_elim
      (λ (second : w ≡ n). absurd (differ (first ∙ sym second)))
      (λ (other : w ≡ n → ⊥). clash w j r (omega (arith, m)) b e (subst (λ (q : ℕ). has_rider g q r ≡ true) (is_it v i first a) d))
      (cases_eq w n))
      (λ (other : v ≡ n → ⊥).
      ⊎_elim
      (λ (second : w ≡ n). clash v i r (omega (arith, l)) a d (subst (λ (q : ℕ). has_rider g q r ≡ true) (is_it w j second b) e))
      (λ (apart : w ≡ n → ⊥). before.apart v w i j r (omega (arith, l)) (omega (arith, m)) differ a b d e)
      (cases_eq w n))
      (cases_eq v n);
}
  where
    is_it : (v j : ℕ) → v ≡ n → IsSoleRow g usable v j → j ≡ k
    is_it v j last sole = here.sole j (subst (λ (q : ℕ). IsSoleRow g usable q j) last sole).row

    clash : (w j r : ℕ) → w < n → IsSoleRow g usable w j → has_rider g j r ≡ true → has_rider g k r ≡ true → ⊥
    clash w j r l sole d e = both_ways _ unmarked (any_marked old (riders_at g k) r e (before.of_sole w j r l sole d))

-- a marked rider of the vehicle's sole row stands in another one, too
pub clash_from : (g : Graph) (usable : Usable) (n k : ℕ) (marks : List Bool) → IsSoleRow g usable n k →
    (list_any (λ q. get_or marks q false) (riders_at g k) ≡ true) → MarksSole g usable n marks → IsClash g usable
clash_from g usable n k marks here some before = search (rules, marked_one)

pub no_clash : (g : Graph) (usable : Usable) (marks : List Bool) → IsGoodGraph g → MarksSole g usable g.vehicles marks → IsClash g usable → ⊥
no_clash g usable marks good marked c =
    marked.apart c.first c.second c.first_row c.second_row c.rider (vehicle_below g c.first c.first_row good.rows c.first_sole.row.row)
    (vehicle_below g c.second c.second_row good.rows c.second_sole.row.row) c.differ c.first_sole c.second_sole c.in_first c.in_second
