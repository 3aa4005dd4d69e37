-- The entries of a round in one order: those of lane 0, with requests of any lanes between.
use Rattle.std.proofs.Common.{◌≡◌, ◌⊎◌, ℕ, true, eqb, List, [], ◌∷◌, Option, Some, None, sym, subst, inl, inr, arith, rules}
use Rattle.route_drive.proofs.Common.{
  AllByRecursion,
  cases_eq,
  RepliesAreSteps,
  step,
  Command,
  Submit,
  Entry,
  State,
  sealed_by,
  IsCloseOf,
  IsLaneRun,
  IsLaneRunFrom,
  of_lane,
  plain-quiet,
  IsPlain,
  eq-eqb,
  ne_eqb,
  nat_tests,
}
use Rattle.route_drive.proofs.kept.Lists.{all_filtered, all_weaker, skips, takes}

-- a request
abbrev pub IsRequest : Command → Type 0
IsRequest (Submit rider origin destination time party) = Unit {0}
IsRequest command = ⊥

-- an entry of a request; and one that isn't answered with a batch, if it is a request
abbrev pub IsAsked : Entry → Type 0
IsAsked e = IsRequest e.command

abbrev pub IsAskedOnly : Entry → Type 0
IsAskedOnly e = IsRequest e.command → sealed_by e.reply ≡ None

-- an entry of another lane than 0 is a request
abbrev pub IsAskedElsewhere : Entry → Type 0
IsAskedElsewhere e = (e.lane ≡ 0 → ⊥) → IsRequest e.command

-- a run of commands, where a batch of this number, if any, is to be closed first, with requests between
abbrev pub IsMixed : Option ℕ → List Command → List Entry → Type 0
IsMixed None [] [] = Unit {0}
IsMixed None (c ∷ cs) [] = ⊥
IsMixed (Some batch) cs [] = ⊥
IsMixed None [] (e ∷ es) = IsRequest e.command × IsMixed None [] es
IsMixed None (c ∷ cs) (e ∷ es) = (IsRequest e.command × IsMixed None (c ∷ cs) es) ⊎ ((e.command ≡ c) × IsMixed (sealed_by e.reply) cs es)
IsMixed (Some batch) cs (e ∷ es) = (IsRequest e.command × IsMixed (Some batch) cs es) ⊎ (IsCloseOf batch e.command × IsMixed None cs es)

asked_first : (e : Entry) (es : List Entry) (o : Option ℕ) (cs : List Command) → IsRequest e.command → IsMixed o cs es → IsMixed o cs (e ∷ es)
asked_first e es None [] is rest = (is, rest)
asked_first e es o cs is rest = inl (is, rest)

own_first : (e : Entry) (es : List Entry) (o : Option ℕ) (cs : List Command) → ((o : Option ℕ) (cs : List Command) → IsLaneRunFrom o cs (of_lane 0 es) →
    IsMixed o cs es)
    → IsLaneRunFrom o cs (e ∷ of_lane 0 es) → IsMixed o cs (e ∷ es)
own_first e es None [] on run = absurd run
own_first e es None (c ∷ cs) on run = inr (run.0, on (sealed_by e.reply) cs run.1)
own_first e es (Some batch) cs on run = inr (run.0, on None cs run.1)

mix : (es : List Entry) (o : Option ℕ) (cs : List Command) → AllByRecursion IsAskedElsewhere es → IsLaneRunFrom o cs (of_lane 0 es) → IsMixed o cs es
mix [] None [] all run = tt
mix [] o cs all run = absurd run
mix (e ∷ es) o cs all run = elim (cases_eq e.lane 0) [
  | inl here ↦ own_first e es o cs (λ o cs rest. mix es o cs all.1 rest) (subst (IsLaneRunFrom o cs)
      (takes (λ (x : Entry). eqb x.lane 0) e es (eq-eqb e.lane 0 here)) run)
  | inr other ↦ asked_first e es o cs (all.0 other)
      (mix es o cs all.1 (subst (IsLaneRunFrom o cs) (skips (λ (x : Entry). eqb x.lane 0) e es (ne_eqb e.lane 0 other)) run))
]

-- a lane of requests has entries of requests
asked_run : (cs : List Command) (es : List Entry) → AllByRecursion IsRequest cs → AllByRecursion IsAskedOnly es → IsLaneRunFrom None cs es →
    AllByRecursion IsAsked es
asked_run [] [] all only run = tt
asked_run (c ∷ cs) (e ∷ es) all only run = search (rules, (asked_run cs es all.1 only.1))
asked_run cs es all only run = absurd run

-- what holds of each other lane holds of the entries of other lanes
pub of_others : (P : Entry → Type 0) (es : List Entry) → ((lane : ℕ) → (lane ≡ 0 → ⊥) → AllByRecursion P (of_lane lane es)) →
    AllByRecursion (λ (e : Entry). (e.lane ≡ 0 → ⊥) → P e) es
of_others P [] all = tt
of_others P (e ∷ es) all = (λ other. first (all e.lane other), of_others P es (λ lane other. rest lane (all lane other)))
  where
    first : AllByRecursion P (of_lane e.lane (e ∷ es)) → P e
    first own = grind (arith, nat_tests)

    rest : (lane : ℕ) → AllByRecursion P (of_lane lane (e ∷ es)) → AllByRecursion P (of_lane lane es)
    rest lane own = grind (arith, nat_tests)

-- a request is neither a seal nor a close, and so isn't answered with a batch
pub asked_plain : (c : Command) → IsRequest c → IsPlain c
asked_plain c is = grind arith

pub asked_only : (nodes : List ℕ) (wait : ℕ) (s : State) (es : List Entry) → RepliesAreSteps nodes wait s es → AllByRecursion IsAskedOnly es
unfolding RepliesAreSteps
asked_only nodes wait s [] replies = tt
asked_only nodes wait s (e ∷ es) replies = (
  λ is. subst (λ r. sealed_by r ≡ None) (sym replies.0)
      (plain-quiet nodes wait s e.command (asked_plain e.command is)).told,
  asked_only nodes wait (step nodes wait s e.command).0 es replies.1,
)

-- entries whose lanes are runs of a round's lanes, where all other lanes than 0 have requests alone
pub mixed : (nodes : List ℕ) (wait : ℕ) (s : State) (lanes : ℕ → List Command) (es : List Entry) → RepliesAreSteps nodes wait s es
    → ((lane : ℕ) → (lane ≡ 0 → ⊥) → AllByRecursion IsRequest (lanes lane)) → ((lane : ℕ) → IsLaneRun (lanes lane) (of_lane lane es)) →
    IsMixed None (lanes 0) es
mixed nodes wait s lanes es replies others runs =
    let only : AllByRecursion IsAskedOnly es = asked_only nodes wait s es replies in
    let asked : (lane : ℕ) → (lane ≡ 0 → ⊥) → AllByRecursion IsAsked (of_lane lane es) = λ lane other. asked_run (lanes lane) (of_lane lane es)
    (others lane other)
    (all_weaker (λ (e : Entry). IsAskedOnly e × (eqb e.lane lane ≡ true)) IsAskedOnly (λ e two. two.0) (of_lane lane es)
    (all_filtered IsAskedOnly (λ (e : Entry). eqb e.lane lane) es only))
    (runs lane) in
    mix es None (lanes 0) (of_others IsAsked es asked) (runs 0)

-- of requests alone come entries of requests alone
pub mixed_asked : (es : List Entry) (cs : List Command) → AllByRecursion IsRequest cs → AllByRecursion IsAskedOnly es → IsMixed None cs es →
    AllByRecursion IsAsked es
mixed_asked [] cs all only is = tt
mixed_asked (e ∷ es) [] all only is = (is.0, mixed_asked es [] tt only.1 is.1)
mixed_asked (e ∷ es) (c ∷ cs) all only (inl two) = (two.0, mixed_asked es (c ∷ cs) all only.1 two.1)
mixed_asked (e ∷ es) (c ∷ cs) all only (inr two) = search (rules, (mixed_asked es cs all.1 only.1))
