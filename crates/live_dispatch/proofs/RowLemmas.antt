-- The rounds of rows with some more rows of one round.
use Rattle.std.proofs.Common.{
  rules,
  ◌≡◌,
  ◌≢◌,
  ℕ,
  ◌<◌,
  ◌≤◌,
  ◌&&◌,
  cond,
  eqb,
  List,
  [],
  ◌∷◌,
  ◌++◌,
  get_or,
  map,
  Option,
  None,
  Some,
  refl,
  sym,
  ap,
  subst,
  ◌∙◌,
  append_assoc,
  append-nil,
  inl,
  inr,
  arith,
}
use Rattle.live_dispatch.proofs.Common.{
  cases_lt,
  cases_order,
  nat_tests,
  map-append,
  get_or_past,
  All-head,
  All-tail,
  All-nil,
  All-push,
  All-weaker,
  All-same,
  filter-append,
  round_line,
  Command,
  ScriptRow,
  NumberedLanes,
  lane_at,
  round_of,
  rounds_of,
  round_numbers,
  in_lane,
  EndsIn,
  EndsWith,
  last_of,
  start_text,
}
use Rattle.std.specs.List.{All, filter, range_with_len}
use Rattle.std.proofs.lemmas.Bool.{eq-eqb, ne_eqb}
use Rattle.std.proofs.lemmas.List.FromFn.{length-map-range_with_len, get_or-map-range_with_len}
use Rattle.pool_base.specs.Distinct.{distinct}
use Rattle.pool_base.proofs.lemmas.DistinctLemmas.{any-more, distinct-push_new, distinct-push_old}

-- each row is of this round, and of one of the sixteen lanes
abbrev pub AreLinesOf : ℕ → List ScriptRow → Type 0
AreLinesOf number [] = Unit {0}
AreLinesOf number (row ∷ rows) = (row.round ≡ number) × (row.lane < 16) × AreLinesOf number rows

-- the commands of a round's lane
abbrev of_round : List ScriptRow → ℕ → ℕ → List Command
of_round lines number lane = map (λ l. l.command) (filter (λ l. eqb l.round number && eqb l.lane lane) lines)

of_round-append : (xs ys : List ScriptRow) (number lane : ℕ) → of_round (xs ++ ys) number lane ≡ of_round xs number lane ++ of_round ys number lane
of_round-append xs ys number lane = search (rules, filter-append, map-append)

-- of rows of one round the lane alone decides
of_round-own : (rows : List ScriptRow) (number lane : ℕ) → AreLinesOf number rows → of_round rows number lane ≡ in_lane rows lane
of_round-own [] number lane are = refl
of_round-own (row ∷ rows) number lane are = grind (arith, nat_tests, are.0, of_round-own rows number lane are.2)

-- rows of another round add nothing
of_round-other : (rows : List ScriptRow) (own number lane : ℕ) → own ≢ number → AreLinesOf own rows → of_round rows number lane ≡ []
of_round-other [] own number lane other are = refl
of_round-other (row ∷ rows) own number lane other are = grind (arith, nat_tests, are.0, of_round-other rows own number lane other are.2)

-- nor has a lane beyond the sixteenth any
in_lane-beyond : (rows : List ScriptRow) (number lane : ℕ) → 16 ≤ lane → AreLinesOf number rows → in_lane rows lane ≡ []
in_lane-beyond [] number lane beyond are = refl
in_lane-beyond (row ∷ rows) number lane beyond are = grind (arith, nat_tests, are.1, in_lane-beyond rows number lane beyond are.2)

-- a lane of a round that is made of rows
round-lane : (lines : List ScriptRow) (number lane : ℕ) → lane < 16 → lane_at (round_of lines number) lane ≡ of_round lines number lane
round-lane lines number lane within = get_or-map-range_with_len (of_round lines number) 0 16 lane lane [] within (omega arith)

round-beyond : (lines : List ScriptRow) (number lane : ℕ) → 16 ≤ lane → lane_at (round_of lines number) lane ≡ []
round-beyond lines number lane beyond = search (rules, get_or_past, length-map-range_with_len)

-- the round of these rows has their commands more
pub lane-grows : (lines rows : List ScriptRow) (number lane : ℕ) → AreLinesOf number rows →
    lane_at (round_of (lines ++ rows) number) lane ≡ lane_at (round_of lines number) lane ++ in_lane rows lane
lane-grows lines rows number lane are = elim (cases_lt lane 16) [
  | inl within ↦
      round-lane (lines ++ rows) number lane within
      ∙ of_round-append lines rows number lane
      ∙ (λ i. sym (round-lane lines number lane within) i ++ of_round-own rows number lane are i)
  | inr beyond ↦
      round-beyond (lines ++ rows) number lane beyond
      ∙ (λ i. sym (round-beyond lines number lane beyond) i ++ sym (in_lane-beyond rows number lane beyond are) i)
]

-- functions that agree on a list
map-on : {X Y : Type 0} (f g : X → Y) (xs : List X) → All (λ x. f x ≡ g x) xs → map f xs ≡ map g xs
map-on f g [] same = refl
map-on f g (x ∷ xs) same = (λ i. All-head (λ y. f y ≡ g y) x xs same i ∷ map-on f g xs (All-tail (λ y. f y ≡ g y) x xs same) i)

-- the rounds of other numbers stay as they were
round-other : (lines rows : List ScriptRow) (own number : ℕ) → own ≢ number → AreLinesOf own rows → round_of (lines ++ rows) number ≡ round_of lines number
round-other lines rows own number other are =
    let same = λ (lane : ℕ). of_round-append lines rows number lane ∙ ap (λ cs. of_round lines number lane ++ cs)
    (of_round-other rows own number lane other are) ∙ append-nil (of_round lines number lane) in
    ap (λ (ls : List (List Command)). record { number = number; lanes = ls }) (map-on (of_round (lines ++ rows) number) (of_round lines number)
    (range_with_len 0 16) (λ k d lt. same (get_or (range_with_len 0 16) k d)))

-- a number that no row has gives a round without commands
of_round-none : (lines : List ScriptRow) (number lane : ℕ) → All (λ n. n ≢ number) (round_numbers lines) → of_round lines number lane ≡ []
of_round-none [] number lane none = refl
of_round-none (row ∷ rows) number lane none =
    let here : row.round ≢ number = All-head (λ n. n ≢ number) row.round (round_numbers rows) none in
    grind (arith, nat_tests, of_round-none rows number lane (All-tail (λ n. n ≢ number) row.round (round_numbers rows) none))

round-none : (lines : List ScriptRow) (number lane : ℕ) → All (λ n. n ≢ number) (round_numbers lines) → lane_at (round_of lines number) lane ≡ []
round-none lines number lane none = grind (
  arith,
  nat_tests,
  (round-lane lines number lane),
  (of_round-none lines number lane none),
  (round-beyond lines number lane),
)

numbers-append : (xs ys : List ScriptRow) → round_numbers (xs ++ ys) ≡ round_numbers xs ++ round_numbers ys
numbers-append xs ys = map-append (λ (l : ScriptRow). l.round) xs ys

ends-more : (ns : List ℕ) (last : ℕ) (front : List ℕ) → EndsWith ns last front → EndsWith (ns ++ last ∷ []) last front
ends-more ns last front e = search (rules, distinct-push_old, any-more, eq-eqb, All-push)

ends-rows : (last : ℕ) (front : List ℕ) (rows : List ScriptRow) → AreLinesOf last rows → (ns : List ℕ) → EndsWith ns last front →
    EndsWith (ns ++ round_numbers rows) last front
ends-rows last front [] are ns e = subst (λ (ms : List ℕ). EndsWith ms last front) (sym (append-nil ns)) e
ends-rows last front (row ∷ rows) are ns e =
    subst (λ (ms : List ℕ). EndsWith ms last front) (append_assoc ns (last ∷ []) (round_numbers rows) ∙ ap (λ n. ns ++ n ∷ round_numbers rows) (sym are.0))
    (ends-rows last front rows are.2 (ns ++ last ∷ []) (ends-more ns last front e))

ends-new : (ns : List ℕ) (number : ℕ) → All (λ n. n < number) ns → EndsWith (ns ++ number ∷ []) number (distinct ns)
ends-new ns number low = record {
  ends = distinct-push_new ns number (All-weaker (λ n. n < number) (λ n. n ≢ number) (λ n h e. omega (arith, h, e)) ns low);
  here = any-more (λ n. eqb n number) ns number (eq-eqb number number refl);
  below = All-push (λ n. n ≤ number) ns number (All-weaker (λ n. n < number) (λ n. n ≤ number) (λ n h. omega (arith, h)) ns low) (omega arith);
}

-- how the rounds of rows grow by rows of one round: the last grows, or there is one more
pub data RoundsGrow (round : Option ℕ) (lines rows : List ScriptRow) (number : ℕ) : Type 0 where
  joins : (front : List NumberedLanes) → start_text round number ≡ []
      → rounds_of lines ≡ front ++ round_of lines number ∷ [] → rounds_of (lines ++ rows) ≡ front ++ round_of (lines ++ rows) number ∷ []
      → RoundsGrow round lines rows number
  begins : start_text round number ≡ round_line number → rounds_of (lines ++ rows) ≡ rounds_of lines ++ round_of (lines ++ rows) number ∷ []
      → ((lane : ℕ) → lane_at (round_of lines number) lane ≡ []) → RoundsGrow round lines rows number

-- rounds before the last stay as they were
fronts-same : (lines rows : List ScriptRow) (own : ℕ) (front : List ℕ) → All (λ n. n < own) front → AreLinesOf own rows →
    map (round_of (lines ++ rows)) front ≡ map (round_of lines) front
fronts-same lines rows own front low are =
    map-on (round_of (lines ++ rows)) (round_of lines) front
    (All-weaker (λ n. n < own) (λ n. round_of (lines ++ rows) n ≡ round_of lines n) (λ n h. round-other lines rows own n (λ e. omega (arith, h, e)) are) front
    low)

rounds-shape : (lines rows : List ScriptRow) (own : ℕ) (front : List ℕ) → All (λ n. n < own) front → AreLinesOf own rows →
    EndsWith (round_numbers lines ++ round_numbers rows) own front
    → rounds_of (lines ++ rows) ≡ map (round_of lines) front ++ round_of (lines ++ rows) own ∷ []
rounds-shape lines rows own front low are ends =
    let all : List ScriptRow = lines ++ rows in
    ap (λ ns. map (round_of all) (distinct ns)) (numbers-append lines rows)
    ∙ ap (map (round_of all)) ends.ends
    ∙ map-append (round_of all) front (own ∷ [])
    ∙ ap (λ rs. rs ++ round_of all own ∷ []) (fronts-same lines rows own front low are)

ends-of : (lines rows : List ScriptRow) (own : ℕ) (front : List ℕ) → All (λ n. n < own) front → EndsWith (round_numbers lines ++ round_numbers rows) own front →
    EndsIn (lines ++ rows) (Some own)
ends-of lines rows own front low ends = EndsIn.in_round front own (subst (λ ns. EndsWith ns own front) (sym (numbers-append lines rows)) ends) low

-- what holds of rows with some more rows of a round
pub record AreMore (round : Option ℕ) (lines rows : List ScriptRow) (number : ℕ) : Type 0 where
  pub ends : EndsIn (lines ++ rows) (Some number)
  pub rounds : RoundsGrow round lines rows number

-- rows of the last round
more-last : (lines rows : List ScriptRow) (last : ℕ) (front : List ℕ) → EndsWith (round_numbers lines) last front → All (λ n. n < last) front →
    AreLinesOf last rows → AreMore (Some last) lines rows last
more-last lines rows last front was low are =
    let now : EndsWith (round_numbers lines ++ round_numbers rows) last front = ends-rows last front rows are (round_numbers lines) was in
    record {
      ends = ends-of lines rows last front low now;
      rounds = RoundsGrow.joins (map (round_of lines) front) (ap (λ b. cond b [] (round_line last)) (eq-eqb last last refl))
          (ap (map (round_of lines)) was.ends ∙ map-append (round_of lines) front (last ∷ []))
          (rounds-shape lines rows last front low are now);
    }

-- rows of a new round
more-new : (round : Option ℕ) (lines : List ScriptRow) (row : ScriptRow) (rows : List ScriptRow) (number : ℕ) → start_text round number ≡ round_line number →
    All (λ n. n < number) (round_numbers lines)
    → AreLinesOf number (row ∷ rows) → All (λ n. n < number) (distinct (round_numbers lines)) → AreMore round lines (row ∷ rows) number
more-new round lines row rows number starts low are apart =
    let now : EndsWith (round_numbers lines ++ round_numbers (row ∷ rows)) number (distinct (round_numbers lines)) =
    subst (λ (ns : List ℕ). EndsWith ns number (distinct (round_numbers lines))) (append_assoc (round_numbers lines) (number ∷ []) (round_numbers rows) ∙
    ap (λ n. round_numbers lines ++ n ∷ round_numbers rows) (sym are.0))
    (ends-rows number (distinct (round_numbers lines)) rows are.2 (round_numbers lines ++ number ∷ []) (ends-new (round_numbers lines) number low)) in
    record {
      ends = ends-of lines (row ∷ rows) number (distinct (round_numbers lines)) apart now;
      rounds = RoundsGrow.begins starts (rounds-shape lines (row ∷ rows) number (distinct (round_numbers lines)) apart are now)
          (λ lane. round-none lines number lane (All-weaker (λ n. n < number) (λ n. n ≢ number) (λ n h e. omega (arith, h, e)) (round_numbers lines) low));
    }

-- rows of one round, not below the last
pub rows-more : (round : Option ℕ) (lines : List ScriptRow) (row : ScriptRow) (rows : List ScriptRow) (number : ℕ) → EndsIn lines round →
    last_of round ≤ number → AreLinesOf number (row ∷ rows)
    → AreMore round lines (row ∷ rows) number
rows-more _ lines row rows number (EndsIn.in_none empty) low are =
    more-new None lines row rows number refl
    (subst (λ (ls : List ScriptRow). All (λ n. n < number) (round_numbers ls)) (sym empty) (All-nil (λ n. n < number))) are
    (subst (λ (ls : List ScriptRow). All (λ n. n < number) (distinct (round_numbers ls))) (sym empty) (All-nil (λ n. n < number)))
rows-more _ lines row rows number (EndsIn.in_round front last ends low_front) low are = elim (cases_order last number) [
  | inl same ↦ subst (λ n. AreMore (Some n) lines (row ∷ rows) number) (sym same)
      (more-last lines (row ∷ rows) number front (subst (λ n. EndsWith (round_numbers lines) n front) same ends)
      (subst (λ n. All (λ m. m < n) front) same low_front) are)
  | inr order ↦ elim order [
    | inl later ↦
        more-new (Some last) lines row rows number (ap (λ b. cond b [] (round_line number)) (ne_eqb last number (λ e. omega (arith, later, e))))
        (All-weaker (λ n. n ≤ last) (λ n. n < number) (λ n h. omega (arith, h, later)) (round_numbers lines) ends.below) are
        (All-same (λ n. n < number) (distinct (round_numbers lines)) (front ++ last ∷ []) ends.ends
        (All-push (λ n. n < number) front last (All-weaker (λ n. n < last) (λ n. n < number) (λ n h. omega (arith, h, later)) front low_front) later))
    | inr back ↦ absurd (omega (arith, low, back))
  ]
]
