use Rattle.std.proofs.Common.{
  rules,
  ◌≡◌,
  ◌≢◌,
  ◌⊎◌,
  ℕ,
  ◌+◌,
  ◌-◌,
  ◌<◌,
  ◌≤◌,
  true,
  false,
  cond,
  eqb,
  List,
  [],
  ◌∷◌,
  ◌++◌,
  map,
  length,
  get_or,
  set,
  Result,
  Ok,
  Err,
  refl,
  sym,
  ap,
  subst,
  ◌∙◌,
  inl,
  inr,
  replicate,
  ⊎_elim,
  arith,
}
use Rattle.input_rows.proofs.Common.{
  list_any,
  cases_order,
  and_parts,
  map-append,
  length_push,
  set_at,
  get_or_at,
  get_or_default,
  All-nil,
  All-push,
  All-weaker,
  All-same,
  ◌>>=◌,
  all_or_first,
  all_or_first-err,
  ScriptFault,
  ScriptRow,
  ScriptVersion,
  script_row_in,
  IsBehind,
  NumberedLanes,
  round_of_last,
  joins,
  with_script_row,
  empty_round,
  with_command,
  round_before,
  round_of,
  script_of,
  script_row_at,
  rounds_of,
  IsRound,
  MayStand,
  Command,
}
use Rattle.std.specs.List.{All}
use Rattle.std.proofs.lemmas.List.{get_or-replicate, get_or-set_other, get_or-set_same, get_or_past, length-set}
use Rattle.std.proofs.lemmas.List.Elements.{All-get_or, All-set}
use Rattle.std.proofs.lemmas.Bool.{cases_eq, cases_lt, cond_both, lt-ltb, le-ltb, eq-eqb, ne_eqb, ltb-true}
use Rattle.pool_base.specs.Distinct.{distinct}
use Rattle.pool_base.proofs.lemmas.DistinctLemmas.{any-more, distinct-push_new, distinct-push_old}
use Rattle.input_rows.proofs.script.GroupLemmas.{map-agree, round_of-push, round_of-push_other, round_of-none}

-- a row that joins the last round
pub with_script_row-joins : (rounds : List NumberedLanes) (script_row : ScriptRow) → joins rounds script_row.round ≡ true →
    with_script_row rounds script_row ≡ set rounds (length rounds - 1) (with_command (round_of_last rounds) script_row.lane script_row.command)
unfolding with_script_row
with_script_row-joins rounds script_row is =
    ap (λ b. cond b (set rounds (length rounds - 1) (with_command (round_of_last rounds) script_row.lane script_row.command))
    (rounds ++ with_command (empty_round script_row.round) script_row.lane script_row.command ∷ [])) is

-- a row that begins a round
pub with_script_row-begins : (rounds : List NumberedLanes) (script_row : ScriptRow) → joins rounds script_row.round ≡ false →
    with_script_row rounds script_row ≡ rounds ++ with_command (empty_round script_row.round) script_row.lane script_row.command ∷ []
unfolding with_script_row
with_script_row-begins rounds script_row is =
    ap (λ b. cond b (set rounds (length rounds - 1) (with_command (round_of_last rounds) script_row.lane script_row.command))
    (rounds ++ with_command (empty_round script_row.round) script_row.lane script_row.command ∷ [])) is

-- a round with one more command is a round
with_command-kept : (round : NumberedLanes) (lane : ℕ) (command : Command) → IsRound round → lane < 16 → MayStand lane command →
    IsRound (with_command round lane command)
with_command-kept round lane command kept within stands = record {
  named = kept.named;
  sixteen = length-set round.lanes lane _ ∙ kept.sixteen;
  stand = λ k. ⊎_elim
      (λ (same : k ≡ lane). subst (λ (l : ℕ). All (MayStand l) (get_or (with_command round lane command).lanes l [])) (sym same)
      (All-same (MayStand lane) _ _ (get_or-set_same round.lanes lane _ [] (omega (arith, kept.sixteen)))
      (All-push (MayStand lane) _ command (kept.stand lane) stands)))
      (λ other. All-same (MayStand k) _ _ (get_or-set_other round.lanes lane k _ [] other) (kept.stand k))
      (cases_eq k lane);
}

empty_round-kept : (number : ℕ) → number ≤ 1000000000 → IsRound (empty_round number)
empty_round-kept number low = record {
  named = low;
  sixteen = refl;
  stand = λ k. All-same (MayStand k) (get_or (replicate 16 []) k []) [] (⊎_elim (λ within. get_or-replicate 16 k [] [] within)
      (λ past. get_or_past (replicate 16 []) k [] past) (cases_lt k 16)) (All-nil (MayStand k));
}

-- a row is put into rounds of a script
pub with_script_row-kept : (rounds : List NumberedLanes) (script_row : ScriptRow) (last : ℕ) → All IsRound rounds → IsBehind last script_row →
    All IsRound (with_script_row rounds script_row)
unfolding with_script_row
with_script_row-kept rounds script_row last kept behind =
    cond_both (joins rounds script_row.round) _ _ (All IsRound)
    (λ joined. let within = ltb-true 0 (length rounds) (and_parts _ _ joined).0 in
    All-set IsRound rounds (length rounds - 1) _ (with_command-kept _ script_row.lane script_row.command
    (All-get_or IsRound rounds (length rounds - 1) (empty_round 0) (omega (arith, within)) kept) behind.lane behind.stands) kept)
    (λ apart. All-push IsRound rounds _ kept (with_command-kept _ script_row.lane script_row.command (empty_round-kept script_row.round behind.number)
    behind.lane behind.stands))

-- the last round of a list that ends in it
round_of_last-push : (rounds : List NumberedLanes) (round : NumberedLanes) → round_of_last (rounds ++ round ∷ []) ≡ round
round_of_last-push rounds round = search (rules, get_or_at, length_push)

joins-push : (rounds : List NumberedLanes) (round : NumberedLanes) (number : ℕ) → joins (rounds ++ round ∷ []) number ≡ eqb round.number number
joins-push rounds round number = search (rules, lt-ltb, length_push, round_of_last-push)

-- the numbers of rows
abbrev pub numbers : List ScriptRow → List ℕ
numbers script_rows = map (λ l. l.round) script_rows

-- the last number of rows, and those before it
pub record LastIs (script_rows : List ScriptRow) (last : ℕ) : Type 0 where
  front : List ℕ
  ends : distinct (numbers script_rows) ≡ front ++ last ∷ []
  before : All (λ n. n < last) front
  here : list_any (λ n. eqb n last) (numbers script_rows) ≡ true

-- the rounds of rows whose numbers rise up to the last
pub record Built (script_rows : List ScriptRow) (last : ℕ) (rounds : List NumberedLanes) : Type 0 where
  pub made : rounds ≡ rounds_of script_rows
  below : All (λ n. n ≤ last) (numbers script_rows)
  shape : (script_rows ≡ []) ⊎ LastIs script_rows last

pub Built-none : Built [] 0 []
Built-none = record { made = refl; below = All-nil (λ n. n ≤ 0); shape = inl refl }

-- the numbers with one more row
numbers-push : (script_rows : List ScriptRow) (script_row : ScriptRow) → numbers (script_rows ++ script_row ∷ []) ≡ numbers script_rows ++ script_row.round ∷ []
numbers-push script_rows script_row = map-append (λ (l : ScriptRow). l.round) script_rows (script_row ∷ [])

below-push : (script_rows : List ScriptRow) (script_row : ScriptRow) (last : ℕ) → last ≤ script_row.round → All (λ n. n ≤ last) (numbers script_rows) →
    All (λ n. n ≤ script_row.round) (numbers (script_rows ++ script_row ∷ []))
below-push script_rows script_row last back below =
    All-same (λ n. n ≤ script_row.round) (numbers (script_rows ++ script_row ∷ [])) (numbers script_rows ++ script_row.round ∷ [])
    (numbers-push script_rows script_row)
    (All-push (λ n. n ≤ script_row.round) (numbers script_rows) script_row.round (All-weaker (λ n. n ≤ last) (λ n. n ≤ script_row.round) (λ n h. omega arith)
    (numbers script_rows) below) (omega arith))

-- the first row makes the first round
first_line : (script_row : ScriptRow) → script_row.lane < 16 → with_script_row [] script_row ≡ rounds_of ([] ++ script_row ∷ [])
first_line script_row within = search (rules, with_script_row-begins, round_of-push)

-- a row of the last round
more_of_last : (script_rows : List ScriptRow) (script_row : ScriptRow) (front : List ℕ) → script_row.lane < 16 →
    distinct (numbers script_rows) ≡ front ++ script_row.round ∷ [] → All (λ n. n < script_row.round) front →
    list_any (λ n. eqb n script_row.round) (numbers script_rows) ≡ true → with_script_row (rounds_of script_rows) script_row ≡ rounds_of
    (script_rows ++ script_row ∷ [])
more_of_last script_rows script_row front within ends before here =
    let all : List ScriptRow = script_rows ++ script_row ∷ [] in
    let firsts : List NumberedLanes = map (round_of script_rows) front in
    let own : NumberedLanes = round_of script_rows script_row.round in
    let was : map (round_of script_rows) (distinct (numbers script_rows)) ≡ firsts ++ own ∷ [] = ap (map (round_of script_rows)) ends ∙
    map-append (round_of script_rows) front (script_row.round ∷ []) in
    let joined : joins (firsts ++ own ∷ []) script_row.round ≡ true = joins-push firsts own script_row.round ∙ eq-eqb script_row.round script_row.round refl in
    let end : length (firsts ++ own ∷ []) - 1 ≡ length firsts = omega (arith, length_push firsts own) in
    let new : with_script_row (firsts ++ own ∷ []) script_row ≡ firsts ++ with_command own script_row.lane script_row.command ∷ [] =
    with_script_row-joins (firsts ++ own ∷ []) script_row joined
    ∙ ap (λ r. set (firsts ++ own ∷ []) (length (firsts ++ own ∷ []) - 1) (with_command r script_row.lane script_row.command)) (round_of_last-push firsts own)
    ∙ set_at firsts own [] (with_command own script_row.lane script_row.command) (length (firsts ++ own ∷ []) - 1) (sym end) in
    let same : map (round_of all) front ≡ firsts =
    map-agree (round_of all) (round_of script_rows) front
    (All-weaker (λ n. n < script_row.round) (λ n. round_of all n ≡ round_of script_rows n)
    (λ n below. round_of-push_other script_rows script_row n (λ e. omega arith)) front before) in
    let names : distinct (numbers all) ≡ front ++ script_row.round ∷ [] = ap distinct (numbers-push script_rows script_row) ∙
    distinct-push_old (numbers script_rows) script_row.round here ∙ ends in
    ap (λ rs. with_script_row rs script_row) was ∙ new
    ∙ ap (λ r. firsts ++ r ∷ []) (sym (round_of-push script_rows script_row within))
    ∙ ap (λ rs. rs ++ round_of all script_row.round ∷ []) (sym same)
    ∙ sym (map-append (round_of all) front (script_row.round ∷ []))
    ∙ ap (map (round_of all)) (sym names)

-- a row of a later round
later_line : (script_rows : List ScriptRow) (script_row : ScriptRow) (front : List ℕ) (last : ℕ) → script_row.lane < 16 → last < script_row.round →
    distinct (numbers script_rows) ≡ front ++ last ∷ [] → All (λ n. n < last) front → All (λ n. n ≤ last) (numbers script_rows) →
    with_script_row (rounds_of script_rows) script_row ≡ rounds_of (script_rows ++ script_row ∷ [])
later_line script_rows script_row front last within later ends before below =
    let all : List ScriptRow = script_rows ++ script_row ∷ [] in
    let ns : List ℕ = distinct (numbers script_rows) in
    let olds : List NumberedLanes = map (round_of script_rows) ns in
    let was : olds ≡ map (round_of script_rows) front ++ round_of script_rows last ∷ [] = ap (map (round_of script_rows)) ends ∙
    map-append (round_of script_rows) front (last ∷ []) in
    let apart : joins olds script_row.round ≡ false =
    ap (λ rs. joins rs script_row.round) was ∙ joins-push (map (round_of script_rows) front) (round_of script_rows last) script_row.round ∙
    ne_eqb last script_row.round (λ e. omega arith) in
    let new : All (λ n. n ≢ script_row.round) (numbers script_rows) = All-weaker (λ n. n ≤ last) (λ n. n ≢ script_row.round) (λ n h e. omega arith)
    (numbers script_rows) below in
    let small : All (λ n. n ≢ script_row.round) ns =
    All-same (λ n. n ≢ script_row.round) ns (front ++ last ∷ []) ends
    (All-push (λ n. n ≢ script_row.round) front last (All-weaker (λ n. n < last) (λ n. n ≢ script_row.round) (λ n h e. omega arith) front before)
    (λ e. omega arith)) in
    let same : map (round_of all) ns ≡ olds =
    map-agree (round_of all) (round_of script_rows) ns
    (All-weaker (λ n. n ≢ script_row.round) (λ n. round_of all n ≡ round_of script_rows n) (λ n other. round_of-push_other script_rows script_row n other) ns
    small) in
    let own : round_of all script_row.round ≡ with_command (empty_round script_row.round) script_row.lane script_row.command =
    round_of-push script_rows script_row within ∙ ap (λ r. with_command r script_row.lane script_row.command)
    (round_of-none script_rows script_row.round new) in
    let names : distinct (numbers all) ≡ ns ++ script_row.round ∷ [] = ap distinct (numbers-push script_rows script_row) ∙
    distinct-push_new (numbers script_rows) script_row.round new in
    with_script_row-begins olds script_row apart
    ∙ ap (λ r. olds ++ r ∷ []) (sym own)
    ∙ ap (λ rs. rs ++ round_of all script_row.round ∷ []) (sym same)
    ∙ sym (map-append (round_of all) ns (script_row.round ∷ []))
    ∙ ap (map (round_of all)) (sym names)

-- the rounds with one more row are the rounds of one row more
pub Built-more : (script_rows : List ScriptRow) (last : ℕ) (rounds : List NumberedLanes) (script_row : ScriptRow) → Built script_rows last rounds →
    IsBehind last script_row → Built (script_rows ++ script_row ∷ []) script_row.round (with_script_row rounds script_row)
Built-more script_rows last rounds script_row built behind =
    let found : list_any (λ n. eqb n script_row.round) (numbers (script_rows ++ script_row ∷ [])) ≡ true =
    ap (list_any (λ n. eqb n script_row.round)) (numbers-push script_rows script_row) ∙ any-more (λ n. eqb n script_row.round) (numbers script_rows)
    script_row.round (eq-eqb script_row.round script_row.round refl) in
    let as_made : with_script_row rounds script_row ≡ with_script_row (rounds_of script_rows) script_row =
    ap (λ rs. with_script_row rs script_row) built.made in
    elim built.shape [
      | inl none ↦ record {
        made = as_made ∙ subst (λ ls. with_script_row (rounds_of ls) script_row ≡ rounds_of (ls ++ script_row ∷ [])) (sym none)
            (first_line script_row behind.lane);
        below = below-push script_rows script_row last behind.round built.below;
        shape = inr (record {
          front = [];
          ends = ap (λ ls. distinct (numbers (ls ++ script_row ∷ []))) none;
          before =
              All-nil (λ n. n < script_row.round);
          here = found;
        });
      }
      | inr some ↦
          elim (cases_order last script_row.round) [
            | inl same ↦
                let ends : distinct (numbers script_rows) ≡ some.front ++ script_row.round ∷ [] = some.ends ∙ ap (λ n. some.front ++ n ∷ []) same in
                let before : All (λ n. n < script_row.round) some.front = All-weaker (λ n. n < last) (λ n. n < script_row.round) (λ n h. omega arith) some.front
                some.before in
                let here : list_any (λ n. eqb n script_row.round) (numbers script_rows) ≡ true =
                subst (λ m. list_any (λ n. eqb n m) (numbers script_rows) ≡ true) same some.here in
                record {
                  made = as_made ∙ more_of_last script_rows script_row some.front behind.lane ends before here;
                  below = below-push script_rows script_row last behind.round built.below;
                  shape = inr (record {
                    front = some.front;
                    ends = ap distinct (numbers-push script_rows script_row) ∙
                        distinct-push_old (numbers script_rows) script_row.round here ∙ ends;
                    before = before;
                    here = found;
                  });
                }
            | inr order ↦
                elim order [
                  | inl later ↦
                      let new : All (λ n. n ≢ script_row.round) (numbers script_rows) = All-weaker (λ n. n ≤ last) (λ n. n ≢ script_row.round)
                      (λ n h e. omega arith) (numbers script_rows) built.below in
                      record {
                        made = as_made ∙ later_line script_rows script_row some.front last behind.lane later some.ends some.before built.below;
                        below = below-push script_rows script_row last behind.round built.below;
                        shape = inr (record {
                          front = distinct (numbers script_rows);
                          ends = ap distinct (numbers-push script_rows script_row) ∙ distinct-push_new (numbers script_rows) script_row.round new;
                          before = All-same (λ n. n < script_row.round) (distinct (numbers script_rows)) (some.front ++ last ∷ []) some.ends
                              (All-push (λ n. n < script_row.round) some.front last (All-weaker (λ n. n < last) (λ n. n < script_row.round) (λ n h. omega arith)
                              some.front some.before) later);
                          here = found;
                        });
                      }
                  | inr back ↦ (let round = behind.round in absurd (omega arith))
                ]
          ]
    ]

-- a row that is read behind the row before
pub script_row_at-read : (version : ScriptVersion) (records : List (List (List ℕ))) (row last : ℕ) (made : Result ScriptRow ScriptFault) →
    last ≡ round_before records row → script_row_in version (row + 1) last (get_or records row []) ≡ made → script_row_at version records row ≡ made
script_row_at-read version records row last made before is = ap (λ n. script_row_in version (row + 1) n (get_or records row [])) (sym before) ∙ is

-- the rounds of few rows
script_of-few : (version : ScriptVersion) (records : List (List (List ℕ))) → length records ≤ 200000 →
    script_of version records ≡ (all_or_first (script_row_at version records) (length records) >>= λ script_rows. Ok (rounds_of script_rows))
script_of-few version records few = search (rules, le-ltb)

-- the first row that is refused
pub script_of-refused : (version : ScriptVersion) (records : List (List (List ℕ))) (row : ℕ) (script_rows : List ScriptRow) (fault : ScriptFault) →
    length records ≤ 200000 → row < length records → all_or_first (script_row_at version records) row ≡ Ok script_rows →
    script_row_at version records row ≡ Err fault → script_of version records ≡ Err fault
script_of-refused version records row script_rows fault few within before here = search (rules, script_of-few, all_or_first-err)

-- after the last row
pub script_of-all : (version : ScriptVersion) (records : List (List (List ℕ))) (row : ℕ) (script_rows : List ScriptRow) → length records ≤ 200000 →
    row ≡ length records → all_or_first (script_row_at version records) row ≡ Ok script_rows → script_of version records ≡ Ok (rounds_of script_rows)
script_of-all version records row script_rows few all before = search (rules, script_of-few)

-- a command that is added to the last round, which has the row's number
pub added_to_last : (rounds : List NumberedLanes) (script_row : ScriptRow) (count : ℕ) (there : NumberedLanes) → joins rounds script_row.round ≡ true →
    count ≡ length rounds → there ≡ get_or rounds (count - 1) there → set rounds (count - 1) (with_command there script_row.lane script_row.command) ≡
    with_script_row rounds script_row
added_to_last rounds script_row count there is size read = search (rules, ltb-true, and_parts, get_or_default, with_script_row-joins)
