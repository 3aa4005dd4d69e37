-- The entries that a row gave, or a batch from its seal to its close.
use Rattle.std.proofs.Common.{
  rules,
  ◌≡◌,
  ◌≢◌,
  ℕ,
  Bool,
  true,
  false,
  cond,
  eqb,
  List,
  [],
  ◌∷◌,
  ◌++◌,
  map,
  Option,
  None,
  Some,
  refl,
  sym,
  ap,
  subst,
  ◌∙◌,
  append-nil,
  All,
  arith,
  filter,
  option_map,
}
use Rattle.live_dispatch.proofs.Common.{
  IsInZero,
  filter-mapped,
  nat_tests,
  All-head,
  All-tail,
  All-weaker,
  Batch,
  of_lane,
  IsCloseOf,
  IsLaneRunFrom,
  IsLaneRun,
  IsLaneBeginning,
  IsGoodClose,
  IsGoodFor,
  LaneClosesAreGood,
  ClosesAreGood,
  each-told,
  closes-join,
  ends-closed,
  stands-plain,
  GoesOn,
  commands_of_pass,
  entry_command,
  row_command,
  pass_of,
  LaneCommand,
  state_after,
  RepliesAreSteps,
  step,
  Command,
  Close,
  Entry,
  Reply,
  State,
  Settings,
  entry_notices,
  Roads,
  MayStand,
  ScriptRow,
  calls_from,
  sealed_by,
  in_lane,
}
use Rattle.std.proofs.lemmas.Bool.{eq-eqb, ne_eqb}
use Rattle.std.proofs.lemmas.Simd.{map-map}
use Rattle.std.proofs.lemmas.List.Elements.{All-filter, All-from_recursion, All-map, filter_agree, recursion_from_All}
use Rattle.std.specs.List.{AllByRecursion}
use Rattle.dispatch_engine.specs.outcome.Outcome.{IsGoodOutcome}
use Rattle.dispatch_engine.specs.lemmas.lanes.Lanes.{IsPlain}
use Rattle.request_book.specs.declared.values.outcome.Answer.TheVariants.{Overflow}
use Rattle.request_book.specs.declared.values.outcome.Outcome.{Outcome}
use Rattle.request_book.specs.declared.values.reply.Reply.TheVariants.{Accepted}
use Rattle.seat_lock.specs.declared.logged.LoggedCall.{LoggedCall}
use Rattle.dispatch_engine.specs.declared.lanes.locked.LockedReply.{LockedReply}
use Rattle.live_dispatch.proofs.RowLemmas.{AreLinesOf}

-- a row's command is no close
pub stands-good : (settings : Settings) (roads : Roads) (lane : ℕ) (s : State) (command : Command) (reply : Reply) → MayStand lane command →
    IsGoodClose settings roads s command reply
stands-good settings roads lane s (Close batch outcome) reply stands = absurd stands
stands-good settings roads lane s _ reply stands = tt

-- and has no notices
pub stands-silent : (lane : ℕ) (s : State) (command : Command) (reply : Reply) → MayStand lane command → entry_notices s command reply ≡ []
stands-silent lane s (Close batch outcome) reply stands = absurd stands
stands-silent lane s _ reply stands = refl

-- the command of a lane's command
abbrev pub told : LaneCommand → Command
told c = c.command

-- the first pass plays lane 0
zero-pass : (es : List Entry) → filter (λ e. eqb (pass_of e.lane) 0) es ≡ of_lane 0 es
zero-pass es = filter_agree (λ (e : Entry). eqb (pass_of e.lane) 0) (λ (e : Entry). eqb e.lane 0) (λ e. grind (arith, nat_tests)) es

pub zero-commands : (es : List Entry) → map (λ e. e.command) (of_lane 0 es) ≡ map told (commands_of_pass 0 es)
zero-commands es = sym (map-map told entry_command (of_lane 0 es)) ∙ ap (λ l. map told (map entry_command l)) (sym (zero-pass es))

-- the second pass plays each other lane
other-pass : (lane : ℕ) (es : List Entry) → lane ≢ 0 → filter (λ c. eqb c.lane lane) (commands_of_pass 1 es) ≡ map entry_command (of_lane lane es)
other-pass lane [] other = refl
other-pass lane (e ∷ es) other = grind (arith, nat_tests, other-pass lane es other)

rows-lane : (lane : ℕ) (rows : List ScriptRow) → filter (λ c. eqb c.lane lane) (map row_command rows) ≡ map row_command (filter (λ l. eqb l.lane lane) rows)
rows-lane lane rows = filter-mapped row_command (λ (c : LaneCommand). eqb c.lane lane) rows

-- the entries of another lane have the commands of its rows
other-commands : (lane : ℕ) (es : List Entry) (rows : List ScriptRow) → lane ≢ 0 → commands_of_pass 1 es ≡ map row_command rows →
    map (λ e. e.command) (of_lane lane es) ≡ in_lane rows lane
other-commands lane es rows other are =
    sym (map-map told entry_command (of_lane lane es))
    ∙ ap (map told) (sym (other-pass lane es other) ∙ ap (filter (λ (c : LaneCommand). eqb c.lane lane)) are ∙ rows-lane lane rows)
    ∙ map-map told row_command (filter (λ (l : ScriptRow). eqb l.lane lane) rows)

-- rows that went on are plain, and outside lane 0
rows-plain : (round : ℕ) (rows : List ScriptRow) → All (GoesOn round) rows → All (λ l. IsPlain l.command) rows
rows-plain round rows going = All-weaker (GoesOn round) (λ (l : ScriptRow). IsPlain l.command) (λ l here. stands-plain l.lane l.command here.1.0 here.0.stands)
    rows going

lane-plain : (round lane : ℕ) (rows : List ScriptRow) → All (GoesOn round) rows → AllByRecursion IsPlain (in_lane rows lane)
lane-plain round lane rows going = search (rules, recursion_from_All, All-map, All-filter, rows-plain)

pub rows-of : (round : ℕ) (rows : List ScriptRow) → All (GoesOn round) rows → AreLinesOf round rows
rows-of round [] going = tt
rows-of round (r ∷ rs) going =
    let here : GoesOn round r = All-head (GoesOn round) r rs going in
    (here.1.1, here.0.lane, rows-of round rs (All-tail (GoesOn round) r rs going))

zero-rows : (round : ℕ) (rows : List ScriptRow) → All (GoesOn round) rows → in_lane rows 0 ≡ []
zero-rows round [] going = refl
zero-rows round (r ∷ rs) going =
    let here : r.lane ≢ 0 = (All-head (GoesOn round) r rs going).1.0 in
    grind (arith, nat_tests, zero-rows round rs (All-tail (GoesOn round) r rs going))

-- so each entry outside lane 0 is plain
in-zero : (es : List Entry) → AllByRecursion IsPlain (map told (commands_of_pass 1 es)) → AllByRecursion IsInZero es
in-zero [] plain = tt
in-zero (e ∷ es) plain = search (rules, eq-eqb, ne_eqb, (in-zero es))

-- the close of lane 0, or nothing
pub close-run : (batch : ℕ) (outcome : Outcome) (es : List Entry) → map (λ e. e.command) es ≡ Close batch outcome ∷ [] → IsLaneRunFrom (Some batch) [] es
close-run batch outcome [] are = absurd cc
close-run batch outcome (e ∷ []) are = let is : e.command ≡ Close batch outcome = cc in (subst (IsCloseOf batch) (sym is) refl, tt)
close-run batch outcome (e ∷ f ∷ es) are = absurd cc

pub none-left : (es : List Entry) → map (λ e. e.command) es ≡ [] → es ≡ []
none-left [] are = refl
none-left (e ∷ es) are = absurd cc

-- a close of a batch
abbrev pub some_close : ℕ → Entry
some_close batch = record { lane = 0; command = Close batch (record { expired = []; answer = Overflow }); reply = Accepted }

-- a plain command seals no batch
abbrev Told : Entry → Type 0
Told e = IsPlain e.command → sealed_by e.reply ≡ None

-- entries of plain commands are a run of them
own-run : (es : List Entry) → AllByRecursion Told es → AllByRecursion IsPlain (map (λ e. e.command) es) → IsLaneRun (map (λ e. e.command) es) es
own-run [] told plain = tt
own-run (e ∷ es) told plain = (refl, subst (λ p. IsLaneRunFrom p (map (λ e. e.command) es) es) (sym (told.0 plain.0)) (own-run es told.1 plain.1))

module _ (nodes : List ℕ) (wait : ℕ) where
  call-commands : (s : State) (es : List Entry) → map (λ c. c.call) (filter (λ c. eqb c.lane 0) (calls_from nodes wait s es)) ≡ map (λ e. e.command)
      (of_lane 0 es)
  unfolding calls_from
  call-commands s [] = refl
  call-commands s (e ∷ es) = grind (arith, call-commands (step nodes wait s e.command).0 es)

module _ (settings : Settings) (roads : Roads) where
  good-calls : (b : Batch) (outcome : Outcome) → IsGoodOutcome settings roads b outcome → (calls : List (LoggedCall Command LockedReply)) →
      map (λ c. c.call) calls ≡ Close b.number outcome ∷ [] → LaneClosesAreGood settings roads (Some b) calls
  good-calls b outcome good [] are = absurd cc
  good-calls b outcome good (c ∷ []) are = let is : c.call ≡ Close b.number outcome = cc in (
    subst (IsGoodFor settings roads (Some b)) (sym is) (b, refl, good),
    tt,
  )
  good-calls b outcome good (c ∷ d ∷ calls) are = absurd cc

  no-calls : (last : Option Batch) (calls : List (LoggedCall Command LockedReply)) → map (λ c. c.call) calls ≡ [] → LaneClosesAreGood settings roads last calls
  no-calls last [] are = tt
  no-calls last (c ∷ calls) are = absurd cc

  -- what entries beside an open batch are
  module _ (b : Batch) (s : State) (es : List Entry) (round : ℕ) (run : List ScriptRow) (sealed : s.sealed ≡ Some b)
      (replies : RepliesAreSteps roads.nodes settings.wait s es)
      (going : All (GoesOn round) run) (called : commands_of_pass 1 es ≡ map row_command run) where
    zeroth : AllByRecursion IsInZero es
    zeroth = in-zero es (subst (AllByRecursion IsPlain) (sym (map-map told row_command run) ∙ ap (map told) (sym called))
        (recursion_from_All IsPlain _ (All-map IsPlain (λ (l : ScriptRow). l.command) run (rows-plain round run going))))

    last : (c : Batch) → s.sealed ≡ Some c → Some b ≡ Some c
    last c is = sym sealed ∙ is

    pub batch-others : (lane : ℕ) → lane ≢ 0 → IsLaneRun (in_lane run lane) (of_lane lane es)
    batch-others lane other =
        let are : map (λ e. e.command) (of_lane lane es) ≡ in_lane run lane = other-commands lane es run other called in
        subst (λ cs. IsLaneRun cs (of_lane lane es)) are
        (own-run (of_lane lane es) (recursion_from_All Told _ (All-filter (λ e. eqb e.lane lane) Told es
        (All-from_recursion Told es (each-told roads.nodes settings.wait s es replies))))
        (subst (AllByRecursion IsPlain) (sym are) (lane-plain round lane run going)))

    pub batch-closes : (outcome : Outcome) → IsGoodOutcome settings roads b outcome → map (λ e. e.command) (of_lane 0 es) ≡ Close b.number outcome ∷ [] →
        ClosesAreGood settings roads s es
    batch-closes outcome good are =
        closes-join settings roads s (Some b) es last replies zeroth
        (good-calls b outcome good (filter (λ (c : LoggedCall Command LockedReply). eqb c.lane 0) (calls_from roads.nodes settings.wait s es))
        (call-commands roads.nodes settings.wait s es ∙ are))

    pub batch-unclosed : map (λ e. e.command) (of_lane 0 es) ≡ [] → ClosesAreGood settings roads s es
    batch-unclosed are =
        closes-join settings roads s (Some b) es last replies zeroth
        (no-calls (Some b) (filter (λ (c : LoggedCall Command LockedReply). eqb c.lane 0) (calls_from roads.nodes settings.wait s es))
        (call-commands roads.nodes settings.wait s es ∙ are))

    pub batch-ended : (outcome : Outcome) → map (λ e. e.command) (of_lane 0 es) ≡ Close b.number outcome ∷ [] →
        (state_after roads.nodes settings.wait s es).sealed ≡ None
    batch-ended outcome are =
        ends-closed roads.nodes settings.wait s (Some b.number) [] es (ap (option_map (λ (c : Batch). c.number)) sealed) replies zeroth
        (close-run b.number outcome (of_lane 0 es) are)

-- a row's entry, by itself, where it sealed nothing
row-kept : (same : Bool) (c : Command) (row : ScriptRow) (e : Entry) → row.command ≡ c → e.command ≡ c → sealed_by e.reply ≡ None →
    IsLaneRun (map (λ (l : ScriptRow). l.command) (cond same (row ∷ []) [])) (cond same (e ∷ []) [])
row-kept true c row e is was none = (was ∙ sym is, subst (λ (p : Option ℕ). IsLaneRunFrom p [] []) (sym none) tt)
row-kept false c row e is was none = tt

pub row-lanes : (row : ScriptRow) (reply : Reply) → sealed_by reply ≡ None → (lane : ℕ) →
    IsLaneRun (in_lane (row ∷ []) lane) (of_lane lane ((record { lane = row.lane; command = row.command; reply = reply }) ∷ []))
row-lanes row reply none lane = row-kept (eqb row.lane lane) row.command row (record { lane = row.lane; command = row.command; reply = reply }) refl refl none

-- a seal that opened a batch, and then lanes of which lane 0 closes it, or may yet
module _ (row : ScriptRow) (e : Entry) (batch round : ℕ) (run : List ScriptRow) (es : List Entry) (zero : row.lane ≡ 0) (first : e.lane ≡ 0)
    (is : e.command ≡ row.command) (opened : sealed_by e.reply ≡ Some batch)
    (going : All (GoesOn round) run) (others : (lane : ℕ) → lane ≢ 0 → IsLaneRun (in_lane run lane) (of_lane lane es)) where
  zero-run : (rest : List Entry) → IsLaneRunFrom (Some batch) [] (of_lane 0 es ++ rest) → IsLaneRun (row.command ∷ in_lane run 0) ((e ∷ of_lane 0 es) ++ rest)
  zero-run rest close = subst (λ cs. IsLaneRun (row.command ∷ cs) (e ∷ (of_lane 0 es ++ rest))) (sym (zero-rows round run going))
      (is, subst (λ (p : Option ℕ). IsLaneRunFrom p [] (of_lane 0 es ++ rest)) (sym opened) close)

  by-lane : (P : List Command → List Entry → Type 0) → P (row.command ∷ in_lane run 0) (e ∷ of_lane 0 es) →
      ((lane : ℕ) → lane ≢ 0 → P (in_lane run lane) (of_lane lane es))
      → (lane : ℕ) → P (in_lane (row ∷ run) lane) (of_lane lane (e ∷ es))
  by-lane P here there lane = search (rules, eq-eqb, ne_eqb)

  pub batch-lanes : IsLaneRunFrom (Some batch) [] (of_lane 0 es) → (lane : ℕ) → IsLaneRun (in_lane (row ∷ run) lane) (of_lane lane (e ∷ es))
  batch-lanes close = by-lane IsLaneRun (subst (IsLaneRun (row.command ∷ in_lane run 0)) (append-nil (e ∷ of_lane 0 es))
      (zero-run [] (subst (IsLaneRunFrom (Some batch) []) (sym (append-nil (of_lane 0 es))) close))) others

  pub batch-begun : (rest : List Entry) → IsLaneRunFrom (Some batch) [] (of_lane 0 es ++ rest) → (lane : ℕ) →
      IsLaneBeginning (in_lane (row ∷ run) lane) (of_lane lane (e ∷ es))
  batch-begun rest close = by-lane IsLaneBeginning (rest, zero-run rest close)
      (λ lane other. ([], subst (IsLaneRun (in_lane run lane)) (sym (append-nil (of_lane lane es))) (others lane other)))
