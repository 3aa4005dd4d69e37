-- Arcs the other way round: walks lead back, in the same time.
use Rattle.std.proofs.lemmas.Bool.Decides.{nat_tests}
use Rattle.std.proofs.Common.{
  ◌≡◌,
  ℕ,
  ◌<◌,
  ◌≤◌,
  Bool,
  true,
  false,
  List,
  [],
  ◌∷◌,
  ◌++◌,
  length,
  get_or,
  slice_index,
  map,
  All,
  Contains,
  refl,
  sym,
  ap,
  ◌∙◌,
  subst,
  arith,
}
use Rattle.travel_times.proofs.Common.{
  length-map,
  get_or-map,
  All-map,
  sum_by-cons,
  Arc,
  IsWalk,
  walk_seconds,
  IsLeastTime,
  IsArcAmong,
  Hub,
  turned,
  directed,
  IsRankedHub,
  AreLabelsBelow,
}
use Rattle.travel_times.proofs.lemmas.search.WalkLemmas.{IsWalk-push, walk_seconds-push}
use Rattle.travel_times.proofs.labels.Times.{AreTimes, start_within, time_is, least_is}
use Rattle.travel_times.proofs.labels.Found.{IsOwnLabel}

-- each arc of the first list is in the second, the other way round
abbrev pub IsTurnOf : List Arc → List Arc → Type 0
IsTurnOf arcs others = (arc : Arc) → Contains arcs arc → Contains others (turned arc)

pub turn_there : (arcs : List Arc) → IsTurnOf arcs (map turned arcs)
turn_there arcs arc (k, inside, is) = (k, rw length-map inside, get_or-map turned arcs k arc (turned arc) inside ∙ ap turned is)

pub turn_back : (arcs : List Arc) → IsTurnOf (map turned arcs) arcs
turn_back arcs arc (k, inside, is) =
    let within : k < length arcs = rw length-map at inside in
    let e : turned (get_or arcs k (turned arc)) ≡ arc = sym (get_or-map turned arcs k (turned arc) arc within) ∙ is in
    (k, within, ap turned e)

-- arcs of the network are so in both directions
pub among_directed : (reversed : Bool) (arcs : List Arc) (n : ℕ) → All (IsArcAmong n) arcs → All (IsArcAmong n) (directed reversed arcs)
among_directed false arcs n among = among
among_directed true arcs n among = All-map (IsArcAmong n) turned arcs (λ k d h. let a = among k d h in (a.1, a.0, a.2))

-- a walk the other way round
abbrev turned_walk : List Arc → List Arc
turned_walk [] = []
turned_walk (arc ∷ rest) = turned_walk rest ++ turned arc ∷ []

IsWalk-turned : (arcs others walk : List Arc) (start goal : ℕ) → IsTurnOf arcs others → IsWalk arcs start walk goal →
    IsWalk others goal (turned_walk walk) start
IsWalk-turned arcs others [] start goal turn walks = sym walks
IsWalk-turned arcs others (arc ∷ rest) start goal turn walks =
    subst (λ (s : ℕ). IsWalk others goal (turned_walk rest ++ turned arc ∷ []) s) walks.1
    (IsWalk-push others (turned_walk rest) (turned arc) goal arc.to (IsWalk-turned arcs others rest arc.to goal turn walks.2) (turn arc walks.0) refl)

walk_seconds-turned : (walk : List Arc) → walk_seconds (turned_walk walk) ≡ walk_seconds walk
walk_seconds-turned [] = refl
walk_seconds-turned (arc ∷ rest) = omega (
  arith,
  walk_seconds-push (turned_walk rest) (turned arc),
  walk_seconds-turned rest,
  sum_by-cons
      (λ (a : Arc). a.seconds) arc rest,
)

-- the least time is the same the other way round
pub IsLeastTime-turned : (arcs others : List Arc) (a b s : ℕ) → IsTurnOf arcs others → IsTurnOf others arcs → IsLeastTime arcs a b s → IsLeastTime others b a s
IsLeastTime-turned arcs others a b s turn back least = grind (arith, nat_tests, (IsWalk-turned arcs others), (IsWalk-turned others arcs), walk_seconds-turned)

-- the label of the other direction is the start's own
pub own_label : (arcs others : List Arc) (n : ℕ) (time : ℕ → ℕ → ℕ) (rank : List ℕ) (h bound : ℕ) (labels : List (List Hub)) → IsTurnOf arcs others →
    IsTurnOf others arcs → All (IsArcAmong n) arcs → All (IsArcAmong n) others → n ≤ 100000 → AreTimes arcs n time
    → h < n → slice_index rank h ≤ bound → AreLabelsBelow others rank n bound labels → IsOwnLabel n time rank h (get_or labels h [])
own_label arcs others n time rank h bound labels turn back among among' few are hh le below =
    let lab = below.labelled h hh in
    record {
      sound = λ hub (k, inside, is).
          let at = lab.sound k hub inside in
          let ranked : IsRankedHub others rank h hub.node hub.seconds = (rw is at at).0 in
          let within : hub.node < n = start_within others ranked.time.walk n hub.node h among' ranked.time.walks hh in
          (within, (time_is among few are h hub.node hub.seconds hh within (IsLeastTime-turned others arcs hub.node h hub.seconds back turn ranked.time)).0);
      complete = λ w hw low finite clear.
          lab.complete (record { node = w; seconds = time h w })
          (record {
            time = IsLeastTime-turned arcs others h w (time h w) turn back (least_is among few are h w hh hw finite);
            first = λ v before after lower from to e.
                let hv : v < n = start_within others to.walk n v h among' to.walks hh in
                clear v hv lower (omega (
                  arith,
                  e,
                  (time_is among few are v w before hv hw (IsLeastTime-turned others arcs w v before back turn from)).0,
                  (time_is among few are h v after hh hv (IsLeastTime-turned others arcs v h after back turn to)).0,
                ));
          })
          (omega arith);
    }
