-- Of two runs of the same commands in one lane: which seals are answered with which batch doesn't depend on what batches gave.
use Rattle.std.proofs.Common.{
  rules,
  ◌≡◌,
  ◌≢◌,
  ℕ,
  suc,
  Bool,
  true,
  false,
  cond,
  eqb,
  List,
  [],
  ◌∷◌,
  Option,
  Some,
  None,
  refl,
  sym,
  ap,
  subst,
  ◌∙◌,
  inl,
  inr,
  arith,
  All,
  option_map,
}
use Rattle.dispatch_engine.proofs.Common.{
  AllZip,
  cases_eq,
  nat_tests,
  Batch,
  next_position,
  state_after,
  RepliesAreSteps,
  batch_of,
  sealed_state,
  step,
  seal,
  close,
  Command,
  Seal,
  Close,
  Entry,
  Journal,
  State,
  Settings,
  Roads,
  NumberedLanes,
  lane_at,
  sealed_by,
  of_lane,
  IsCloseOf,
  IsLaneRunFrom,
  IsLaneRun,
  IsRoundRun,
  IsRun,
}
use Rattle.std.proofs.lemmas.Bool.{eq-eqb}
use Rattle.request_book.specs.declared.values.outcome.Outcome.{Outcome}
use Rattle.dispatch_engine.specs.lanes.Same.{IsInLaneZero, IsSameCommand, HaveSameCommands}
use Rattle.dispatch_engine.proofs.lemmas.lanes.LaneLemmas.{plain-quiet}

abbrev number_of : Option Batch → Option ℕ
number_of = option_map (λ b. b.number)

-- what answers a seal or a close looks at: the last seal, the number of the batch that stands sealed, and how many there were
record IsSameClock (s t : State) : Type 0 where
  last : s.last_seal ≡ t.last_seal
  open' : number_of s.sealed ≡ number_of t.sealed
  batches : s.batches ≡ t.batches

same-self : (c : Command) → IsSameCommand c c
same-self (Close batch outcome) = refl
same-self _ = refl

closes-same : (batch : ℕ) (c d : Command) → IsCloseOf batch c → IsCloseOf batch d → IsSameCommand c d
closes-same batch (Close a o) (Close b p) c d = d ∙ sym c
closes-same batch (Close a o) _ c d = absurd d
closes-same batch _ d c e = absurd c

module _ (nodes : List ℕ) (wait : ℕ) where
  -- states of one clock answer a command with the same batch, and are of one clock then
  record Agrees (s t : State) (c d : Command) : Type 0 where
    clock : IsSameClock (step nodes wait s c).0 (step nodes wait t d).0
    told : sealed_by (step nodes wait s c).1 ≡ sealed_by (step nodes wait t d).1

  seal-agrees : (s t : State) (now : ℕ) → IsSameClock s t → Agrees s t (Seal now) (Seal now)
  unfolding step seal sealed_state batch_of
  seal-agrees s t now same = record { clock = record { last = grind arith; open' = grind arith; batches = grind arith }; told = grind arith }

  close-agrees : (s t : State) (batch : ℕ) (o p : Outcome) → IsSameClock s t → Agrees s t (Close batch o) (Close batch p)
  unfolding step close
  close-agrees s t batch o p same = record {
    clock = record { last = grind arith; open' = grind (arith, nat_tests); batches = grind arith };
    told =
        grind arith;
  }

  closes-agree : (s t : State) (batch : ℕ) (c d : Command) → IsCloseOf batch c → IsCloseOf batch d → IsSameClock s t → Agrees s t c d
  closes-agree s t batch (Close a o) (Close b p) c d same = subst (λ n. Agrees s t (Close a o) (Close n p)) (c ∙ sym d) (close-agrees s t a o p same)
  closes-agree s t batch (Close a o) _ c d same = absurd d
  closes-agree s t batch _ d c e same = absurd c

  agrees : (s t : State) (c : Command) → IsSameClock s t → Agrees s t c c
  agrees s t (Seal now) same = seal-agrees s t now same
  agrees s t (Close batch outcome) same = close-agrees s t batch outcome outcome same
  agrees s t c same =
      let a = plain-quiet nodes wait s c tt in
      let b = plain-quiet nodes wait t c tt in
      record {
        clock = record {
          last = a.last ∙ same.last ∙ sym b.last;
          open' = ap number_of a.sealed ∙ same.open' ∙ sym (ap number_of b.sealed);
          batches = a.batches ∙
              same.batches ∙ sym b.batches;
        };
        told = a.told ∙ sym b.told;
      }

  -- two runs of the same commands have the same commands, and end with one clock
  record AreSame (s t : State) (es fs : List Entry) : Type 0 where
    commands : AllZip (λ a b. IsSameCommand a.command b.command) es fs
    clock : IsSameClock (state_after nodes wait s es) (state_after nodes wait t fs)

  one-more : (s t : State) (e f : Entry) (es fs : List Entry) → IsSameCommand e.command f.command
      → AreSame (step nodes wait s e.command).0 (step nodes wait t f.command).0 es fs → AreSame s t (e ∷ es) (f ∷ fs)
  unfolding state_after
  one-more s t e f es fs same rest = record { commands = (same, rest.commands); clock = rest.clock }

  runs-same : (s t : State) (pending : Option ℕ) (cs : List Command) (es fs : List Entry) → IsSameClock s t
      → RepliesAreSteps nodes wait s es → RepliesAreSteps nodes wait t fs → IsLaneRunFrom pending cs es → IsLaneRunFrom pending cs fs → AreSame s t es fs
  unfolding RepliesAreSteps state_after
  runs-same s t None [] [] [] same p q a b = record { commands = tt; clock = same }
  runs-same s t None (c ∷ cs) (e ∷ es) (f ∷ fs) same p q a b =
      let is : f.command ≡ e.command = b.0 ∙ sym a.0 in
      let here = subst (λ d. Agrees s t e.command d) (sym is) (agrees s t e.command same) in
      let told : sealed_by f.reply ≡ sealed_by e.reply = ap sealed_by q.0 ∙ sym here.told ∙ ap sealed_by (sym p.0) in
      one-more s t e f es fs (subst (λ d. IsSameCommand e.command d) (sym is) (same-self e.command))
      (runs-same (step nodes wait s e.command).0 (step nodes wait t f.command).0 (sealed_by e.reply) cs es fs here.clock p.1 q.1 a.1
      (subst (λ o. IsLaneRunFrom o cs fs) told b.1))
  runs-same s t (Some batch) cs (e ∷ es) (f ∷ fs) same p q a b =
      let here = closes-agree s t batch e.command f.command a.0 b.0 same in
      one-more s t e f es fs (closes-same batch e.command f.command a.0 b.0) (runs-same (step nodes wait s e.command).0 (step nodes wait t f.command).0 None cs
      es fs here.clock p.1 q.1 a.1 b.1)
  runs-same s t _ _ _ _ same p q a b = search rules

-- where only lane 0 has entries, all entries are lane 0's
nil-of : (b : Bool) (e : Entry) (rest : List Entry) → cond b (e ∷ rest) rest ≡ [] → (b ≡ false) × (rest ≡ [])
nil-of true e rest none = absurd cc
nil-of false e rest none = (refl, none)

all-zero : (es : List Entry) → ((k : ℕ) → k ≢ 0 → of_lane k es ≡ []) → of_lane 0 es ≡ es
all-zero [] none = refl
all-zero (e ∷ es) none = elim (cases_eq e.lane 0) [
  | inl is ↦ rw (eq-eqb e.lane 0 is) (ap (λ l. e ∷ l) (all-zero es (λ k ne. (nil-of (eqb e.lane k) e (of_lane k es) (none k ne)).1)))
  | inr ne ↦ let no = (nil-of (eqb e.lane e.lane) e (of_lane e.lane es) (none e.lane ne)).0 in absurd (let yes = eq-eqb e.lane e.lane refl in cc)
]

run-nil : (es : List Entry) → IsLaneRun [] es → es ≡ []
run-nil [] run = refl
run-nil (e ∷ es) run = absurd run

module _ (settings : Settings) (roads : Roads) where
  lane-zero : (round : NumberedLanes) (j : Journal) → IsInLaneZero round → IsRoundRun settings roads round j → IsLaneRun (lane_at round 0) j.entries
  lane-zero round j zeroth run =
      subst (IsLaneRun (lane_at round 0)) (all-zero j.entries (λ k ne. run-nil (of_lane k j.entries)
      (subst (λ cs. IsLaneRun cs (of_lane k j.entries)) (zeroth k ne) (run.lanes k)))) (run.lanes 0)

  journals-same : (s t : State) (round : NumberedLanes) (j k : Journal) → IsSameClock s t → IsInLaneZero round → j.base ≡ s → k.base ≡ t
      → IsRoundRun settings roads round j → IsRoundRun settings roads round k → AreSame roads.nodes settings.wait s t j.entries k.entries
  journals-same s t round j k same zeroth first second a b =
      runs-same roads.nodes settings.wait s t None (lane_at round 0) j.entries k.entries same
      (subst (λ u. RepliesAreSteps roads.nodes settings.wait u j.entries) first a.replies)
      (subst (λ u. RepliesAreSteps roads.nodes settings.wait u k.entries) second b.replies)
      (lane-zero round j zeroth a) (lane-zero round k zeroth b)

  rounds-same : (s t : State) (p q : ℕ) (rounds : List NumberedLanes) (one other : List Journal) → IsSameClock s t → All IsInLaneZero rounds
      → IsRun settings roads s p rounds one → IsRun settings roads t q rounds other → AllZip HaveSameCommands one other
  rounds-same s t p q [] [] [] same zeroth a b = tt
  rounds-same s t p q (r ∷ rs) (j ∷ js) (k ∷ ks) same zeroth a b =
      let here = journals-same s t r j k same (zeroth 0 r (omega arith)) a.0 b.0 a.2 b.2 in (
        here.commands,
        rounds-same (state_after roads.nodes settings.wait s j.entries) (state_after roads.nodes settings.wait t k.entries)
            (next_position p j.entries) (next_position q k.entries) rs js ks here.clock (λ n d lt. zeroth (suc n) d (omega (arith, lt))) a.3 b.3,
      )
  rounds-same s t p q _ _ _ same zeroth a b = search rules

  pub commands-same : (s : State) (position : ℕ) (rounds : List NumberedLanes) (one other : List Journal) → All IsInLaneZero rounds
      → IsRun settings roads s position rounds one → IsRun settings roads s position rounds other → AllZip HaveSameCommands one other
  commands-same s position rounds one other zeroth a b = rounds-same s s position position rounds one other
      (record { last = refl; open' = refl; batches = refl }) zeroth a b
