-- The rounds of a day: requests, and in lane 0 a seal before them.
use Rattle.std.proofs.Common.{
  ◌≡◌,
  ℕ,
  ◌+◌,
  ◌<◌,
  ◌≤◌,
  Bool,
  false,
  not,
  cond,
  ltb,
  List,
  [],
  ◌∷◌,
  ◌++◌,
  length,
  drop,
  Option,
  Some,
  None,
  unwrap_or,
  refl,
  sym,
  ap,
  ◌∙◌,
  subst,
  arith,
  inl,
  inr,
  append_assoc,
  length-append,
  All,
  option_and_then,
  rules,
}
use Rattle.route_drive.proofs.Common.{
  AllByRecursion,
  list_any,
  option_or,
  cases_lt,
  All-head,
  All-tail,
  recursion_from_All,
  first_fault,
  first_fault-each,
  Command,
  Submit,
  Seal,
  IsRound,
  MayStand,
  NumberedLanes,
  lane_at,
  day_fault,
  first_seal,
  is_of_day,
  is_seal_command,
  lane_fault,
  latest_seal,
  round_fault,
  seal_of,
  seals_fault,
  fault_at,
  ltb-false,
  true≢false,
  get_or-append-add,
  take_at,
  get_or_past,
  nat_tests,
}
use Rattle.route_drive.proofs.DayLemmas.{latest-push}
use Rattle.route_drive.proofs.kept.Lists.{both, all_weaker}
use Rattle.route_drive.proofs.kept.Mixed.{IsRequest}
use Rattle.route_drive.specs.declared.day.DayFault.TheVariants as fault

-- lane 0 of a round that has no seal, or begins with one
pub data IsDayLane (latest : ℕ) (round : NumberedLanes) : Type 0 where
  asks : seal_of round ≡ None → AllByRecursion IsRequest (lane_at round 0) → IsDayLane latest round
  seals : (now : ℕ) (cs : List Command) → seal_of round ≡ Some now → lane_at round 0 ≡ Seal now ∷ cs → AllByRecursion IsRequest cs → latest ≤ now →
      IsDayLane latest round

-- a round of a day, behind seals up to a second
pub record IsDayRound (latest : ℕ) (round : NumberedLanes) : Type 0 where
  pub own : IsDayLane latest round
  pub others : (lane : ℕ) → (lane ≡ 0 → ⊥) → AllByRecursion IsRequest (lane_at round lane)

abbrev pub AreDayRounds : ℕ → List NumberedLanes → Type 0
AreDayRounds latest [] = Unit {0}
AreDayRounds latest (round ∷ rounds) = IsDayRound latest round × AreDayRounds (unwrap_or (seal_of round) latest) rounds

neither : {X : Type 0} (o p : Option X) → option_or o p ≡ None → (o ≡ None) × (p ≡ None)
neither o p e = grind arith

none_any : {X : Type 0} (p : X → Bool) (xs : List X) → list_any p xs ≡ false → AllByRecursion (λ x. p x ≡ false) xs
none_any p [] e = tt
none_any p (x ∷ xs) e = grind (arith, nat_tests, none_any p xs)

untold : {X : Type 0} (b : Bool) (x : X) → cond b (Some x) None ≡ None → b ≡ false
untold b x e = grind arith

-- a lane in which nothing is foreign to a day
lane_of_day : (round : NumberedLanes) (lane : ℕ) → first_fault (lane_fault round) (length round.lanes) ≡ None →
    AllByRecursion (λ c. not (is_of_day c) ≡ false) (lane_at round lane)
lane_of_day round lane none = elim (cases_lt lane (length round.lanes)) [
  | inl h ↦ none_any (λ c. not (is_of_day c)) (lane_at round lane) (untold (list_any (λ c. not (is_of_day c)) (lane_at round lane))
      (fault.Command round.number lane) (first_fault-each (lane_fault round) (length round.lanes) lane none h))
  | inr h ↦ subst (AllByRecursion (λ c. not (is_of_day c) ≡ false)) (sym (get_or_past round.lanes lane [] h)) tt
]

-- lane 0, by its first command
own_lane : (latest before : ℕ) (round : NumberedLanes) → before ≤ latest → AllByRecursion (λ c. not (is_of_day c) ≡ false) (lane_at round 0) →
    AllByRecursion (λ c. is_seal_command c ≡ false) (drop 1 (lane_at round 0))
    → option_and_then (λ now. cond (ltb now latest) (Some (fault.SealBack round.number)) None) (seal_of round) ≡ None → IsDayLane before round
own_lane latest before round le of_day unsealed back = by (lane_at round 0) refl of_day unsealed
  where
    asked : (cs : List Command) → AllByRecursion (λ c. not (is_of_day c) ≡ false) cs → AllByRecursion (λ c. is_seal_command c ≡ false) cs →
        AllByRecursion IsRequest cs
    asked cs day sealed = all_weaker (λ c. (not (is_of_day c) ≡ false) × (is_seal_command c ≡ false)) IsRequest (λ c two. grind arith) cs
        (both (λ c. not (is_of_day c) ≡ false) (λ c. is_seal_command c ≡ false) cs day sealed)

    in_order : (now : ℕ) → seal_of round ≡ Some now → before ≤ now
    in_order now is =
        let told : cond (ltb now latest) (Some (fault.SealBack round.number)) None ≡ None = ap
        (option_and_then (λ now. cond (ltb now latest) (Some (fault.SealBack round.number)) None)) (sym is) ∙ back in
        omega (arith, ltb-false now latest (untold (ltb now latest) (fault.SealBack round.number) told), le)

    by : (cs : List Command) → lane_at round 0 ≡ cs → AllByRecursion (λ c. not (is_of_day c) ≡ false) cs →
        AllByRecursion (λ c. is_seal_command c ≡ false) (drop 1 cs) → IsDayLane before round
    by [] e day sealed = IsDayLane.asks (ap first_seal e) (subst (AllByRecursion IsRequest) (sym e) tt)
    by (Seal now ∷ cs) e day sealed =
        let is : seal_of round ≡ Some now = ap first_seal e in
        IsDayLane.seals now cs is e (asked cs day.1 sealed) (in_order now is)
    by (Submit rider origin destination time party ∷ cs) e day sealed =
        IsDayLane.asks (ap first_seal e) (subst (AllByRecursion IsRequest) (sym e) (tt, asked cs day.1 sealed))
    by (command ∷ cs) e day sealed = absurd (true≢false day.0)

day_round : (latest before : ℕ) (round : NumberedLanes) → before ≤ latest → IsRound round → round_fault latest round ≡ None → IsDayRound before round
day_round latest before round le is none =
    let lanes = neither (first_fault (lane_fault round) (length round.lanes)) (option_or (seals_fault round)
    (option_and_then (λ now. cond (ltb now latest) (Some (fault.SealBack round.number)) None) (seal_of round))) none in
    let rest = neither (seals_fault round) (option_and_then (λ now. cond (ltb now latest) (Some (fault.SealBack round.number)) None) (seal_of round)) lanes.1 in
    record {
      own = own_lane latest before round le (lane_of_day round 0 lanes.0) (none_any is_seal_command (drop 1 (lane_at round 0))
          (untold (list_any is_seal_command (drop 1 (lane_at round 0))) (fault.Seals round.number) rest.0)) rest.1;
      others = λ lane other. all_weaker (λ c. (not (is_of_day c) ≡ false) × MayStand lane c) IsRequest (λ c two. grind arith) (lane_at round lane)
          (both (λ c. not (is_of_day c) ≡ false) (MayStand lane) (lane_at round lane) (lane_of_day round lane lanes.0)
          (recursion_from_All (MayStand lane) (lane_at round lane) (is.stand lane)));
    }

fault_front : (before : List NumberedLanes) (r : NumberedLanes) (rest : List NumberedLanes) →
    fault_at (before ++ r ∷ rest) (length before) ≡ round_fault (latest_seal before) r
fault_front before r rest = search (rules, (get_or-append-add before (r ∷ rest) 0), (take_at before (r ∷ rest) (length before)))

rounds_on : (rest before : List NumberedLanes) (latest : ℕ) → latest ≤ latest_seal before →
    ((k : ℕ) → k < length (before ++ rest) → fault_at (before ++ rest) k ≡ None) → All IsRound rest → AreDayRounds latest rest
rounds_on [] before latest le none all = tt
rounds_on (r ∷ rest) before latest le none all =
    let same : (before ++ r ∷ []) ++ rest ≡ before ++ r ∷ rest = append_assoc before (r ∷ []) rest in (
      day_round (latest_seal before) latest r le (All-head IsRound r rest all) (sym (fault_front before r rest) ∙
          none (length before) (grind (arith, length-append))),
      rounds_on rest (before ++ r ∷ []) (unwrap_or (seal_of r) latest) (subst (λ n. unwrap_or (seal_of r) latest ≤ n) (sym (latest-push before r))
          (grind arith))
          (subst (λ l. (k : ℕ) → k < length l → fault_at l k ≡ None) (sym same) none) (All-tail IsRound r rest all),
    )

pub are_day_rounds : (rounds : List NumberedLanes) → All IsRound rounds → day_fault rounds ≡ None → AreDayRounds 0 rounds
are_day_rounds rounds all none = rounds_on rounds [] 0 (omega arith) (λ k below. first_fault-each (fault_at rounds) (length rounds) k none below) all
