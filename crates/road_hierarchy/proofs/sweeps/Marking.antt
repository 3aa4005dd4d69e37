-- One more arc of a pass that marks.
use Rattle.std.proofs.Common.{◌≡◌, ◌≢◌, ℕ, ◌+◌, ◌<◌, ◌≤◌, inl, inr, Bool, true, false, List, length, get_or, set, refl, sym, ap, ◌∙◌, subst, arith}
use Rattle.std.proofs.lemmas.Bool.{cases_eq, false≢true}
use Rattle.std.proofs.lemmas.List.{get_or-set_other, get_or-set_same, get_or_default, length-set}
use Rattle.road_network.specs.declared.arc.Arc.{Arc}
use Rattle.road_hierarchy.specs.work.sweeps.Sweep.{AreInTurn}
use Rattle.road_hierarchy.specs.work.sweeps.Marks.{HasMarkedBack, HasMarkedOn, MarksBack, MarksOn, is_marked}

-- a mark more
more_marked : (now : List Bool) (at : ℕ) → at < length now → (node : ℕ) → is_marked now node ≡ true → is_marked (set now at true) node ≡ true
more_marked now at within node is = elim (cases_eq node at) [
  | inl e ↦ ap (is_marked (set now at true)) e ∙ get_or-set_same now at true false within
  | inr ne ↦ get_or-set_other now at node true false ne ∙ is
]

pub on_none : (arcs : List Arc) (marks : List Bool) → HasMarkedOn arcs 0 marks marks
on_none arcs marks = record { same_length = refl; kept = λ node is. is; closed = λ k d lt within. absurd (omega (arith, lt, within)) }

pub on_all : (arcs : List Arc) (count : ℕ) (marks marks' : List Bool) → length arcs ≤ count → HasMarkedOn arcs count marks marks' → MarksOn arcs marks marks'
on_all arcs count marks marks' all has = record {
  same_length = has.same_length;
  kept = has.kept;
  closed = λ arc (k, within, is) from. ap (λ (a : Arc). is_marked marks' a.to) (sym is) ∙ has.closed k arc (omega (arith, within, all)) within
      (ap (λ (a : Arc). is_marked marks' a.from) is ∙ from);
}

module _ (arcs : List Arc) (turn : AreInTurn arcs) (count : ℕ) (marks now : List Bool) (has : HasMarkedOn arcs count marks now) (arc : Arc)
    (inside : count < length arcs) (read : arc ≡ get_or arcs count arc) where
  on_at : (k : ℕ) (d : Arc) → k ≡ count → arc ≡ get_or arcs k d
  on_at k d e = read ∙ get_or_default arcs count arc d inside ∙ ap (λ x. get_or arcs x d) (sym e)

  pub on_skip : is_marked now arc.from ≡ false → HasMarkedOn arcs (count + 1) marks now
  on_skip off = record {
    same_length = has.same_length;
    kept = has.kept;
    closed = λ k d lt within there. elim (cases_eq k count) [
      | inl e ↦ absurd (false≢true (sym off ∙ ap (λ (a : Arc). is_marked now a.from) (on_at k d e) ∙ there))
      | inr ne ↦ has.closed k d (omega (arith, lt, ne)) within there
    ];
  }

  pub on_take : arc.to < length now → HasMarkedOn arcs (count + 1) marks (set now arc.to true)
  on_take within = record {
    same_length = length-set now arc.to true ∙ has.same_length;
    kept = λ node is. more_marked now arc.to within node (has.kept node is);
    closed = λ k d lt here there. elim (cases_eq k count) [
      | inl e ↦ ap (λ (a : Arc). is_marked (set now arc.to true) a.to) (sym (on_at k d e)) ∙ get_or-set_same now arc.to true false within
      | inr ne ↦
          let other : k < count = omega (arith, lt, ne) in
          let apart : arc.to ≢ (get_or arcs k d).from = subst (λ (a : Arc). a.to ≢ (get_or arcs k d).from) (sym (on_at count d refl))
          (turn k count d (omega (arith, other)) inside) in
          more_marked now arc.to within (get_or arcs k d).to (has.closed k d other here
          (sym (get_or-set_other now arc.to (get_or arcs k d).from true false (λ h. apart (sym h))) ∙ there))
    ];
  }

pub back_none : (arcs : List Arc) (marks : List Bool) → HasMarkedBack arcs (length arcs) marks marks
back_none arcs marks = record { same_length = refl; kept = λ node is. is; closed = λ k d lt within. absurd (omega (arith, lt, within)) }

pub back_all : (arcs : List Arc) (count : ℕ) (marks marks' : List Bool) → count ≡ 0 → HasMarkedBack arcs count marks marks' → MarksBack arcs marks marks'
back_all arcs count marks marks' all has = record {
  same_length = has.same_length;
  kept = has.kept;
  closed = λ arc (k, within, is) to. ap (λ (a : Arc). is_marked marks' a.from) (sym is) ∙ has.closed k arc (omega (arith, within, all)) within
      (ap (λ (a : Arc). is_marked marks' a.to) is ∙ to);
}

module _ (arcs : List Arc) (turn : AreInTurn arcs) (count : ℕ) (marks now : List Bool) (has : HasMarkedBack arcs (count + 1) marks now) (arc : Arc)
    (inside : count < length arcs) (read : arc ≡ get_or arcs count arc) where
  back_at : (k : ℕ) (d : Arc) → k ≡ count → arc ≡ get_or arcs k d
  back_at k d e = read ∙ get_or_default arcs count arc d inside ∙ ap (λ x. get_or arcs x d) (sym e)

  pub back_skip : is_marked now arc.to ≡ false → HasMarkedBack arcs count marks now
  back_skip off = record {
    same_length = has.same_length;
    kept = has.kept;
    closed = λ k d lt within there. elim (cases_eq k count) [
      | inl e ↦ absurd (false≢true (sym off ∙ ap (λ (a : Arc). is_marked now a.to) (back_at k d e) ∙ there))
      | inr ne ↦ has.closed k d (omega (arith, lt, ne)) within there
    ];
  }

  pub back_take : arc.from < length now → HasMarkedBack arcs count marks (set now arc.from true)
  back_take within = record {
    same_length = length-set now arc.from true ∙ has.same_length;
    kept = λ node is. more_marked now arc.from within node (has.kept node is);
    closed = λ k d lt here there. elim (cases_eq k count) [
      | inl e ↦ ap (λ (a : Arc). is_marked (set now arc.from true) a.from) (sym (back_at k d e)) ∙ get_or-set_same now arc.from true false within
      | inr ne ↦
          let other : count < k = omega (arith, lt, ne) in
          let apart : (get_or arcs k d).to ≢ arc.from = subst (λ (a : Arc). (get_or arcs k d).to ≢ a.from) (sym (back_at count d refl))
          (turn count k d (omega (arith, other)) here) in
          more_marked now arc.from within (get_or arcs k d).from (has.closed k d (omega (arith, other)) here
          (sym (get_or-set_other now arc.from (get_or arcs k d).to true false apart) ∙ there))
    ];
  }
