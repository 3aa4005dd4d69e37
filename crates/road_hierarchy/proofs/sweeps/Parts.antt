-- A part of a list of arcs.
use Rattle.std.proofs.Common.{
  ◌≡◌,
  ◌≢◌,
  ℕ,
  zero,
  suc,
  ◌+◌,
  ◌<◌,
  Bool,
  true,
  false,
  cond,
  inl,
  inr,
  List,
  [],
  ◌∷◌,
  ◌++◌,
  length,
  get_or,
  filter,
  take,
  Contains,
  refl,
  ap,
  ◌∙◌,
  subst,
  append-nil,
  arith,
}
use Rattle.std.proofs.lemmas.Bool.{cases_Bool}
use Rattle.std.proofs.lemmas.List.Elements.{All-contains_itself, All-filter, filter_more}
use Rattle.road_network.specs.declared.arc.Arc.{Arc}
use Rattle.road_hierarchy.specs.work.sweeps.Sweep.{AreInTurn}

-- the next arc is taken, or left out
pub part_takes : (p : Arc → Bool) (arcs : List Arc) (i : ℕ) (d : Arc) → i < length arcs → p (get_or arcs i d) ≡ true → filter p
    (take (i + 1) arcs) ≡ filter p (take i arcs) ++ get_or arcs i d ∷ []
part_takes p arcs i d lt is = filter_more p arcs i d lt ∙ ap (λ b. filter p (take i arcs) ++ cond b (get_or arcs i d ∷ []) []) is

pub part_skips : (p : Arc → Bool) (arcs : List Arc) (i : ℕ) (d : Arc) → i < length arcs → p (get_or arcs i d) ≡ false → filter p
    (take (i + 1) arcs) ≡ filter p (take i arcs)
part_skips p arcs i d lt is = filter_more p arcs i d lt ∙ ap (λ b. filter p (take i arcs) ++ cond b (get_or arcs i d ∷ []) []) is ∙ append-nil
    (filter p (take i arcs))

-- what is kept was there, and passes
pub part_among : (p : Arc → Bool) (arcs : List Arc) (arc : Arc) → Contains (filter p arcs) arc → Contains arcs arc
part_among p arcs arc (k, within, is) = subst (λ a. Contains arcs a) is (All-filter p (Contains arcs) arcs (All-contains_itself arcs) k arc within)

-- what passes is kept
pub part_keeps : (p : Arc → Bool) (arcs : List Arc) (arc : Arc) → Contains arcs arc → p arc ≡ true → Contains (filter p arcs) arc
part_keeps p [] arc (k, within, is) h = absurd (omega arith)
part_keeps p (y ∷ ys) arc (zero, within, is) h = let e : p y ≡ true = ap p is ∙ h in rw e (0, omega arith, is)
part_keeps p (y ∷ ys) arc (suc k, within, is) h =
    let rest = part_keeps p ys arc (k, omega arith, is) h in
    elim (cases_Bool (p y)) [ inl e ↦ rw e (suc rest.0, omega (arith, rest.1), rest.2) | inr e ↦ rw e rest ]

-- no arc of the rest leads to where the first starts, and the rest is in turn
turn_rest : (arc : Arc) (arcs : List Arc) → AreInTurn (arc ∷ arcs) → AreInTurn arcs
turn_rest arc arcs turn i j d le lt = turn (suc i) (suc j) d (omega (arith, le)) (omega (arith, lt))

turn_first : (arc : Arc) (arcs : List Arc) → AreInTurn (arc ∷ arcs) → (other : Arc) → Contains (arc ∷ arcs) other → other.to ≢ arc.from
turn_first arc arcs turn other (k, within, is) = subst (λ (a : Arc). a.to ≢ arc.from) is (turn 0 k other (omega arith) within)

turn_cons : (arc : Arc) (arcs : List Arc) → ((other : Arc) → Contains (arc ∷ arcs) other → other.to ≢ arc.from) → AreInTurn arcs → AreInTurn (arc ∷ arcs)
turn_cons arc arcs first rest zero j d le lt = first (get_or (arc ∷ arcs) j d) (j, lt, subst_read (arc ∷ arcs) j d lt) where
  subst_read : (xs : List Arc) (k : ℕ) (d : Arc) → k < length xs → get_or xs k (get_or xs k d) ≡ get_or xs k d
  subst_read [] k d h = absurd (omega (arith, h))
  subst_read (x ∷ xs) zero d h = refl
  subst_read (x ∷ xs) (suc k) d h = subst_read xs k d (omega (arith, h))
turn_cons arc arcs first rest (suc i) zero d le lt = absurd (omega (arith, le))
turn_cons arc arcs first rest (suc i) (suc j) d le lt = rest i j d (omega (arith, le)) (omega (arith, lt))

-- a part of arcs in turn is in turn
pub part_in_turn : (p : Arc → Bool) (arcs : List Arc) → AreInTurn arcs → AreInTurn (filter p arcs)
part_in_turn p [] turn = λ i j d le lt. absurd (omega (arith, lt))
part_in_turn p (arc ∷ arcs) turn = elim (cases_Bool (p arc)) [
  | inl e ↦ rw e (turn_cons arc (filter p arcs) (λ other here. turn_first arc arcs turn other (kept other here))
      (part_in_turn p arcs (turn_rest arc arcs turn)))
  | inr e ↦ rw e (part_in_turn p arcs (turn_rest arc arcs turn))
] where
  kept : (other : Arc) → Contains (arc ∷ filter p arcs) other → Contains (arc ∷ arcs) other
  kept other (zero, within, is) = (0, omega arith, is)
  kept other (suc k, within, is) = let more = part_among p arcs other (k, omega (arith, within), is) in (suc more.0, omega (arith, more.1), more.2)
