-- How lanes come on.
use Rattle.std.proofs.Common.{
  ◌≡◌,
  ◌==◌,
  ◌↔◌,
  ℕ,
  zero,
  suc,
  ◌+◌,
  ◌<◌,
  ◌≤◌,
  List,
  [],
  ◌∷◌,
  ◌++◌,
  length,
  set,
  drop,
  replicate,
  Option,
  Some,
  None,
  refl,
  sym,
  ap,
  ◌∙◌,
  subst,
  inl,
  inr,
  ⊎_elim,
  arith,
  append-nil,
  append_assoc,
  eq-eqb,
}
use Rattle.dispatch_engine.proofs.Common.{
  cases_eq,
  cases_lt,
  cond-true,
  cond-false,
  drop_all,
  get_or_past,
  get_or-replicate,
  length-replicate,
  filter-append,
  of_lane,
  IsLaneRun,
  IsLaneRunFrom,
  LaneProgress,
  at_start,
  progress_at,
  IsRest,
  IsNext,
  progress_after,
  HaveCome,
  AreDone,
  Command,
  Entry,
  NumberedLanes,
  IsRound,
  lane_at,
}
use Rattle.std.proofs.lemmas.Bool.{ne_eqb}
use Rattle.std.proofs.lemmas.List.{drop_more, get_or-set_same, get_or-set_other}
use Rattle.std.proofs.lemmas.Option.{get_or_from_slice_get, slice_get_within}

-- what is left after an entry is left before it, with the entry
go_on : (commands : List Command) (pending : Option ℕ) (taken : ℕ) (e : Entry) (rest : List Entry) →
    IsNext commands (record { taken = taken; pending = pending }) e.command
    → IsRest commands (progress_after (record { taken = taken; pending = pending }) e.reply) rest ↔ IsRest commands
    (record { taken = taken; pending = pending }) (e ∷ rest)
go_on commands None taken e rest next =
    let left : drop taken commands ≡ e.command ∷ drop (taken + 1) commands =
    drop_more commands taken e.command (slice_get_within commands taken e.command next) ∙ ap (λ c. c ∷ drop (taken + 1) commands)
    (get_or_from_slice_get commands taken e.command e.command next) in (
      λ after. subst (λ (cs : List Command). IsLaneRunFrom None cs (e ∷ rest)) (sym left) (refl, after),
      λ run. let at : IsLaneRunFrom None (e.command ∷ drop (taken + 1) commands) (e ∷ rest) =
          subst (λ (cs : List Command). IsLaneRunFrom None cs (e ∷ rest)) left run in at.1,
    )
go_on commands (Some batch) taken e rest next = (λ after. (next, after), λ run. run.1)

-- the entries of a lane with one more
of_lane-own : (lane : ℕ) (es : List Entry) (e : Entry) (rest : List Entry) → lane ≡ e.lane → of_lane lane (es ++ e ∷ []) ++ rest ≡ of_lane lane es ++ (e ∷ rest)
of_lane-own lane es e rest own =
    ap (λ xs. xs ++ rest) (filter-append (λ x. x.lane == lane) es (e ∷ []) ∙ ap (λ xs. of_lane lane es ++ xs)
    (cond-true (e.lane == lane) (e ∷ []) [] (eq-eqb e.lane lane (sym own))))
    ∙ append_assoc (of_lane lane es) (e ∷ []) rest

of_lane-other : (lane : ℕ) (es : List Entry) (e : Entry) → (lane ≡ e.lane → ⊥) → of_lane lane (es ++ e ∷ []) ≡ of_lane lane es
of_lane-other lane es e other =
    filter-append (λ x. x.lane == lane) es (e ∷ []) ∙ ap (λ xs. of_lane lane es ++ xs) (cond-false (e.lane == lane) (e ∷ []) []
    (ne_eqb e.lane lane (λ is. other (sym is)))) ∙ append-nil (of_lane lane es)

-- one more entry of a lane
module _ (round : NumberedLanes) (lanes : List LaneProgress) (es : List Entry) (e : Entry) (rest : List Entry) where
  abbrev after : LaneProgress
  after = progress_after (progress_at lanes e.lane) e.reply

  abbrev Comes : ℕ → Type 0
  Comes k = IsRest (lane_at round k) (progress_at (set lanes e.lane after) k) rest ↔ IsLaneRun (lane_at round k) (of_lane k (es ++ e ∷ []) ++ rest)

  -- the same where a lane stands so and has these entries
  comes-so : (k : ℕ) (progress : LaneProgress) (entries : List Entry) → progress_at (set lanes e.lane after) k ≡ progress →
      of_lane k (es ++ e ∷ []) ++ rest ≡ entries
      → IsRest (lane_at round k) progress rest ↔ IsLaneRun (lane_at round k) entries → Comes k
  comes-so k progress entries stands are =
      subst (λ (z : LaneProgress × List Entry). IsRest (lane_at round k) z.0 rest ↔ IsLaneRun (lane_at round k) z.1) (λ i. (sym stands i, sym are i))

pub come_more : (round : NumberedLanes) (lanes : List LaneProgress) (es : List Entry) (e : Entry) → e.lane < length lanes → HaveCome round lanes es →
    IsNext (lane_at round e.lane) (progress_at lanes e.lane) e.command
    → HaveCome round (set lanes e.lane (progress_after (progress_at lanes e.lane) e.reply)) (es ++ e ∷ [])
come_more round lanes es e low come next lane rest =
    let progress = progress_at lanes e.lane in
    let next_progress = progress_after progress e.reply in
    let on = go_on (lane_at round e.lane) progress.pending progress.taken e rest next in
    let before = come e.lane (e ∷ rest) in
    let own = comes-so round lanes es e rest e.lane next_progress (of_lane e.lane es ++ (e ∷ rest)) (get_or-set_same lanes e.lane next_progress at_start low)
    (of_lane-own e.lane es e rest refl)
    (λ left. before.0 (on.0 left), λ run. on.1 (before.1 run)) in
    ⊎_elim (λ (same : lane ≡ e.lane). subst (Comes round lanes es e rest) (sym same) own)
    (λ (other : lane ≡ e.lane → ⊥).
    comes-so round lanes es e rest lane (progress_at lanes lane) (of_lane lane es ++ rest) (get_or-set_other lanes e.lane lane next_progress at_start other)
    (ap (λ xs. xs ++ rest) (of_lane-other lane es e other)) (come lane rest))
    (cases_eq lane e.lane)

-- at the start every lane has all to do
pub come_none : (round : NumberedLanes) → HaveCome round (replicate 16 at_start) []
come_none round lane rest = rw (begins lane) ((λ left. left), (λ run. run))
  where
    begins : (k : ℕ) → progress_at (replicate 16 at_start) k ≡ at_start
    begins k = elim (cases_lt k 16) [
      | inl low ↦ get_or-replicate 16 k at_start at_start low
      | inr high ↦ get_or_past (replicate 16 at_start) k at_start (omega (arith, length-replicate 16 at_start, high))
    ]

-- nothing is left exactly where all commands were taken
pub rest_none : (commands : List Command) (taken : ℕ) → length commands ≤ taken → IsRest commands (record { taken = taken; pending = None }) []
rest_none commands taken h = subst (λ (cs : List Command). IsLaneRunFrom None cs []) (sym (drop_all taken commands h)) tt

pub rest_some : (commands : List Command) (taken : ℕ) → taken < length commands → IsRest commands (record { taken = taken; pending = None }) [] → ⊥
rest_some [] taken h rest = omega arith
rest_some (c ∷ cs) zero h rest = rest
rest_some (c ∷ cs) (suc k) h rest = rest_some cs k (omega arith) rest

-- all lanes are done where the sixteen are
pub done_all : (round : NumberedLanes) (lanes : List LaneProgress) → IsRound round → length lanes ≡ 16 →
    ((lane : ℕ) → lane < 16 → IsRest (lane_at round lane) (progress_at lanes lane) []) → AreDone round lanes
done_all round lanes kept sixteen below lane = elim (cases_lt lane 16) [
  | inl low ↦ below lane low
  | inr high ↦ rw (get_or_past lanes lane at_start (omega (arith, sixteen, high)), get_or_past round.lanes lane [] (omega (arith, kept.sixteen, high))) tt
]
