-- From the lanes of a round to its journal.
use Rattle.std.proofs.Common.{◌≡◌, ◌≢◌, ℕ, ◌<◌, ◌≤◌, List, [], ◌++◌, length, sym, ap, subst, ◌∙◌, Result, Ok, Err, OnErr}
use Rattle.dispatch_engine.proofs.Common.{
  AllByRecursion,
  BookView,
  IsBook,
  IsSameBook,
  state_after,
  RepliesAreSteps,
  Command,
  Entry,
  State,
  Settings,
  Roads,
  IsRound,
  MayStand,
  NumberedLanes,
  lane_at,
  BookPass,
  IsFinished,
  of_lane,
  ClosesAreGood,
  IsLaneRun,
  IsReady,
  IsRoundRun,
  IsSameRun,
  journal_of,
  HaveRunLanes,
  IsPlain,
  IsJointRun,
}
use Rattle.std.proofs.lemmas.List.Elements.{recursion_from_All}
use Rattle.std.specs.List.{All}
use Rattle.dispatch_engine.proofs.lemmas.lanes.LaneLemmas.{joined}
use Rattle.dispatch_engine.proofs.lemmas.lanes.StandLemmas.{stands-plain}

-- what holds at all holds on an error
pub on-err : {T E : Type 0} (r : Result T E) (P : Type 0) → P → OnErr r P
on-err (Ok x) P p = tt
on-err (Err e) P p = p

-- all commands of a lane other than the first are plain
all-plain : (lane : ℕ) (commands : List Command) → lane ≢ 0 → All (MayStand lane) commands → AllByRecursion IsPlain commands
all-plain lane commands other stand = recursion_from_All IsPlain commands (λ k d lt. stands-plain lane _ other (stand k d lt))

-- a round whose lanes have run
module _ (settings : Settings) (roads : Roads) (round : NumberedLanes) (start book : BookView) (passes : List BookPass) (done : IsFinished start passes book)
    (ready : IsReady settings roads start)
    (kept : IsRound round) (some : 0 < length passes) (rest : (lane : ℕ) → length passes ≤ lane → lane_at round lane ≡ [])
    (ran : HaveRunLanes settings roads round passes) where
  joint : IsJointRun settings roads start.state (lane_at round) done.since
  joint = joined settings roads (lane_at round) start book passes ready done (record {
    some = some;
    runs = λ k d lt. (ran k d lt).run;
    closes = λ d. (ran 0 d some).closes;
    plain = λ k other. all-plain k (lane_at round k) other (kept.stand k);
    beyond = rest;
  })

  pub round-run : start.entries ≡ [] → IsBook start → IsBook book → IsRoundRun settings roads round (journal_of book)
  unfolding state_after
  round-run empty opened after =
      let since : book.entries ≡ done.since = done.entries ∙ ap (λ (es : List Entry). es ++ done.since) empty in
      let base : start.state ≡ book.base = opened.state ∙ ap (λ (es : List Entry). state_after start.nodes start.wait start.base es) empty ∙ sym done.base in
      let P : List ℕ → ℕ → Type 0 = λ ns w. RepliesAreSteps ns w book.base book.entries in
      record {
        replies = subst (λ ns. P ns settings.wait) (done.nodes ∙ ready.nodes) (subst (λ w. P book.nodes w) (done.wait ∙ ready.wait) after.replies);
        closes = subst (λ (s : State). ClosesAreGood settings roads s book.entries) base (subst
            (λ (es : List Entry). ClosesAreGood settings roads start.state es) (sym since) joint.closes);
        lanes = λ lane. subst (λ (es : List Entry). IsLaneRun (lane_at round lane) (of_lane lane es)) (sym since) (joint.lanes lane);
      }

  pub round-ready : IsReady settings roads book
  round-ready = record {
    nodes = done.nodes ∙ ready.nodes;
    wait = done.wait ∙ ready.wait;
    closed =
        ap (λ (s : State). s.sealed) done.state
        ∙ ap (λ ns. (state_after ns start.wait start.state done.since).sealed) ready.nodes
        ∙ ap (λ w. (state_after roads.nodes w start.state done.since).sealed) ready.wait
        ∙ joint.closed;
  }

pub same-ready : (settings : Settings) (roads : Roads) (old new : BookView) → IsSameBook old new → IsReady settings roads old → IsReady settings roads new
same-ready settings roads old new same ready = record {
  nodes = same.nodes ∙ ready.nodes;
  wait = same.wait ∙ ready.wait;
  closed = ap (λ (s : State). s.sealed) same.state ∙ ready.closed;
}

pub finished-same : (start book : BookView) (passes : List BookPass) → IsFinished start passes book → IsSameRun start book
finished-same start book passes done = record { nodes = done.nodes; wait = done.wait; first = done.first; base = done.base }

pub same-run : (old start book : BookView) → IsSameBook old start → IsSameRun start book → IsSameRun old book
same-run old start book same run = record {
  nodes = run.nodes ∙ same.nodes;
  wait = run.wait ∙ same.wait;
  first = run.first ∙ same.first;
  base = run.base ∙ same.base;
}
