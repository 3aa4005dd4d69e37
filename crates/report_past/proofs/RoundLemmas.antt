-- The rows of one round.
use Rattle.std.proofs.Common.{
  rules,
  ◌≡◌,
  ℕ,
  zero,
  suc,
  ◌<◌,
  ◌≤◌,
  ◌&&◌,
  not,
  eqb,
  List,
  [],
  ◌∷◌,
  ◌++◌,
  map,
  fold,
  Option,
  Some,
  None,
  refl,
  sym,
  ap,
  ◌∙◌,
  inl,
  inr,
  arith,
}
use Rattle.std.proofs.lemmas.Bool.{cases_lt}
use Rattle.std.proofs.lemmas.Bool.Decides.{nat_tests}
use Rattle.std.proofs.lemmas.List.{get_or_past}
use Rattle.std.proofs.lemmas.List.Elements.{All-cons, All-head, All-nil, All-tail, All-weaker}
use Rattle.std.proofs.lemmas.List.FromFn.{length-map-range_with_len, get_or-map-range_with_len}
use Rattle.std.proofs.lemmas.List.Sums.{fold-append}
use Rattle.std.specs.List.{All, filter}
use Rattle.pool_base.specs.Distinct.{distinct}
use Rattle.input_rows.specs.declared.script.script_row.ScriptRow.{ScriptRow}
use Rattle.input_rows.specs.script.Round.{lane_at}
use Rattle.input_rows.specs.script.Script.{round_of}
use Rattle.input_rows.specs.script.ScriptRow.{IsBehind}
use Rattle.live_dispatch.specs.Live.{rows_rounds}
use Rattle.report_past.proofs.lemmas.LaterLemmas.{further_rounds, top}
use Rattle.report_past.specs.Past.{last_round}
use Rattle.report_past.specs.Told.{AreScriptRows}
use Rattle.report_past.specs.work.Reading.{AreOf, commands_in}

-- of rows of one round the lane alone decides
of_round-own : (rows : List ScriptRow) (number lane : ℕ) → AreOf number rows → map (λ (l : ScriptRow). l.command)
    (filter (λ l. eqb l.round number && eqb l.lane lane) rows) ≡ commands_in rows lane
of_round-own [] number lane are = refl
of_round-own (row ∷ rows) number lane are = grind (arith, nat_tests, are.0, of_round-own rows number lane are.2)

in_lane-beyond : (rows : List ScriptRow) (number lane : ℕ) → 16 ≤ lane → AreOf number rows → commands_in rows lane ≡ []
in_lane-beyond [] number lane beyond are = refl
in_lane-beyond (row ∷ rows) number lane beyond are = grind (arith, nat_tests, are.1, in_lane-beyond rows number lane beyond are.2)

pub round-beyond : (rows : List ScriptRow) (number lane : ℕ) → 16 ≤ lane → lane_at (round_of rows number) lane ≡ []
round-beyond rows number lane beyond = search (rules, get_or_past, length-map-range_with_len)

pub lane_commands : (rows : List ScriptRow) (number lane : ℕ) → AreOf number rows → lane_at (round_of rows number) lane ≡ commands_in rows lane
lane_commands rows number lane are = elim (cases_lt lane 16) [
  | inl within ↦
      get_or-map-range_with_len (λ k. map (λ (l : ScriptRow). l.command) (filter (λ l. eqb l.round number && eqb l.lane k) rows)) 0 16 lane lane [] within
      (omega arith)
      ∙ of_round-own rows number lane are
  | inr beyond ↦ round-beyond rows number lane beyond ∙ sym (in_lane-beyond rows number lane beyond are)
]

-- rows of one round make one round
one_number : (rows : List ScriptRow) (number : ℕ) → AreOf number rows → filter (λ m. not (eqb m number)) (distinct (map (λ (l : ScriptRow). l.round) rows)) ≡ []
one_number [] number are = refl
one_number (row ∷ rows) number are = grind (arith, nat_tests, are.0, one_number rows number are.2)

pub one_round : (row : ScriptRow) (rows : List ScriptRow) (number : ℕ) → AreOf number (row ∷ rows) →
    rows_rounds (row ∷ rows) ≡ round_of (row ∷ rows) number ∷ []
one_round row rows number are =
    ap (λ n. map (round_of (row ∷ rows)) (n ∷ filter (λ m. not (eqb m n)) (distinct (map (λ (l : ScriptRow). l.round) rows)))) are.0
    ∙ ap (λ ns. map (round_of (row ∷ rows)) (number ∷ ns)) (one_number rows number are.2)

own_above : (number : ℕ) (rows : List ScriptRow) (m : ℕ) → m < number → AreOf number rows → All (λ l. m < l.round) rows
own_above number [] m low are = All-nil (λ (l : ScriptRow). m < l.round)
own_above number (row ∷ rows) m low are = All-cons (λ (l : ScriptRow). m < l.round) row rows (omega (arith, low, are.0)) (own_above number rows m low are.2)

pub own_most : (number : ℕ) (rows : List ScriptRow) → AreOf number rows → All (λ l. l.round ≤ number) rows
own_most number [] are = All-nil (λ (l : ScriptRow). l.round ≤ number)
own_most number (row ∷ rows) are = All-cons (λ (l : ScriptRow). l.round ≤ number) row rows (omega (arith, are.0)) (own_most number rows are.2)

pub last_of_rounds : (front : List ScriptRow) (row : ScriptRow) (rows : List ScriptRow) (number : ℕ) → All (λ l. l.round < number) front →
    AreOf number (row ∷ rows)
    → rows_rounds (front ++ (row ∷ rows)) ≡ rows_rounds front ++ round_of (row ∷ rows) number ∷ []
last_of_rounds [] row rows number earlier are = one_round row rows number are
last_of_rounds (f ∷ front) row rows zero earlier are = absurd (omega (arith, All-head (λ (l : ScriptRow). l.round < 0) f front earlier))
last_of_rounds (f ∷ front) row rows (suc n) earlier are =
    further_rounds n (f ∷ front) (row ∷ rows) (All-weaker (λ (l : ScriptRow). l.round < suc n) (λ (l : ScriptRow). l.round ≤ n) (λ l h. omega (arith, h))
    (f ∷ front) earlier)
    (own_above (suc n) (row ∷ rows) n (omega arith) are)
    ∙ ap (λ rs. rows_rounds (f ∷ front) ++ rs) (one_round row rows (suc n) are)

own_last : (rows : List ScriptRow) (number : ℕ) (at : Option ℕ) → at ≡ Some number → AreOf number rows →
    fold (λ _ (row : ScriptRow). Some row.round) at rows ≡ Some number
own_last [] number at is are = is
own_last (row ∷ rows) number at is are = own_last rows number (Some row.round) (ap Some are.0) are.2

pub round_of_last : (front : List ScriptRow) (row : ScriptRow) (rows : List ScriptRow) (number : ℕ) → AreOf number (row ∷ rows) →
    last_round (front ++ (row ∷ rows)) ≡ Some number
round_of_last front row rows number are =
    fold-append (λ (_ : Option ℕ) (r : ScriptRow). Some r.round) None front (row ∷ rows) ∙ own_last rows number (Some row.round) (ap Some are.0) are.2

-- one row more
top-le : (last : ℕ) (rows : List ScriptRow) (n : ℕ) → last ≤ n → All (λ l. l.round ≤ n) rows → top last rows ≤ n
top-le last [] n low all = low
top-le last (row ∷ rows) n low all = top-le row.round rows n (All-head (λ (l : ScriptRow). l.round ≤ n) row rows all)
    (All-tail (λ (l : ScriptRow). l.round ≤ n) row rows all)

behind_top : (last : ℕ) (rows : List ScriptRow) (row : ScriptRow) → AreScriptRows last rows → IsBehind (top last rows) row →
    AreScriptRows last (rows ++ row ∷ [])
behind_top last [] row are is = (is, tt)
behind_top last (r ∷ rows) row are is = (are.0, behind_top r.round rows row are.1 is)

pub rows_push : (rows : List ScriptRow) (row : ScriptRow) → AreScriptRows 0 rows → All (λ l. l.round ≤ row.round) rows → IsBehind 0 row →
    AreScriptRows 0 (rows ++ row ∷ [])
rows_push rows row are low is =
    behind_top 0 rows row are (record { round = top-le 0 rows row.round (omega arith) low; number = is.number; lane = is.lane; stands = is.stands })

pub own_push : (number : ℕ) (rows : List ScriptRow) (row : ScriptRow) → AreOf number rows → row.round ≡ number → row.lane < 16 → AreOf number (rows ++ row ∷ [])
own_push number [] row are is low = (is, low, tt)
own_push number (r ∷ rows) row are is low = (are.0, are.1, own_push number rows row are.2 is low)
