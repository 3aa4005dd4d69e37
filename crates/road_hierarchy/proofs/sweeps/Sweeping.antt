-- One more arc of a pass.
use Rattle.std.proofs.Common.{
  ◌≡◌,
  ◌≢◌,
  ℕ,
  ◌+◌,
  ◌<◌,
  ◌≤◌,
  inl,
  inr,
  List,
  [],
  ◌∷◌,
  ◌++◌,
  length,
  get_or,
  set,
  slice_index,
  All,
  Contains,
  refl,
  sym,
  ap,
  ◌∙◌,
  subst,
  arith,
}
use Rattle.std.proofs.lemmas.Bool.{cases_eq}
use Rattle.std.proofs.lemmas.List.{get_or-set_other, get_or-set_same, get_or_default, length-set}
use Rattle.std.proofs.lemmas.List.Sums.{sum_by_push}
use Rattle.road_network.specs.declared.arc.Arc.{Arc}
use Rattle.road_network.specs.Walk.{IsWalk}
use Rattle.road_hierarchy.specs.work.sweeps.Sweep.{AreInTurn, HasSwept, SweepsTo, far}

walk-push : (arcs walk : List Arc) (arc : Arc) (start : ℕ) → Contains arcs arc → IsWalk arcs start walk arc.from → IsWalk arcs start (walk ++ arc ∷ []) arc.to
walk-push arcs [] arc start among walks = (among, sym walks, refl)
walk-push arcs (first ∷ rest) arc start among walks = (walks.0, walks.1, walk-push arcs rest arc first.to among walks.2)

pub swept_none : (arcs : List Arc) (row : List ℕ) → HasSwept arcs 0 row row
swept_none arcs row = record {
  same_length = refl;
  no_later = λ node. omega arith;
  from = λ node.
      (node, [], refl, omega arith);
  settled = λ k d lt. absurd (omega (arith, lt));
}

pub swept_all : (arcs : List Arc) (count : ℕ) (row row' : List ℕ) → length arcs ≤ count → HasSwept arcs count row row' → SweepsTo arcs row row'
swept_all arcs count row row' all swept = record {
  same_length = swept.same_length;
  no_later = swept.no_later;
  from = swept.from;
  settled = λ arc (k, within, is). subst (λ (a : Arc). slice_index row' a.to ≤ slice_index row' a.from + a.seconds) is
      (swept.settled k arc (omega (arith, within, all)) within);
}

module _ (arcs : List Arc) (turn : AreInTurn arcs) (count : ℕ) (row now : List ℕ) (swept : HasSwept arcs count row now) (arc : Arc)
    (inside : count < length arcs) (read : arc ≡ get_or arcs count arc) where
  -- the arc betters nothing
  pub swept_skip : slice_index now arc.to ≤ slice_index now arc.from + arc.seconds → HasSwept arcs (count + 1) row now
  swept_skip le = record {
    same_length = swept.same_length;
    no_later = swept.no_later;
    from = swept.from;
    settled = λ k d lt within. elim (cases_eq k count) [
      | inl e ↦
          let is : arc ≡ get_or arcs k d = read ∙ ap (λ x. get_or arcs x arc) (sym e) ∙ get_or_default arcs k arc d within in
          subst (λ (a : Arc). slice_index now a.to ≤ slice_index now a.from + a.seconds) is le
      | inr ne ↦ swept.settled k d (omega (arith, lt, ne)) within
    ];
  }

  -- the arc lowers a cell
  pub swept_take : (through : ℕ) → through ≡ slice_index now arc.from + arc.seconds → through < slice_index now arc.to → arc.to < length now → HasSwept arcs
      (count + 1) row (set now arc.to through)
  swept_take through is less within =
      let other : (node : ℕ) → node ≢ arc.to → slice_index (set now arc.to through) node ≡ slice_index now node = λ node ne. get_or-set_other now arc.to
      node through 0 ne in
      let same : slice_index (set now arc.to through) arc.to ≡ through = get_or-set_same now arc.to through 0 within in
      let lower : (node : ℕ) → slice_index (set now arc.to through) node ≤ slice_index now node = λ node. elim (cases_eq node arc.to) [
        | inl e ↦ subst (λ x. slice_index (set now arc.to through) x ≤ slice_index now x) (sym e) (omega (arith, same, less))
        | inr ne ↦ omega (arith, other node ne)
      ] in
      let self : arc.to ≢ arc.from = subst (λ (a : Arc). a.to ≢ a.from) (sym read) (turn count count arc (omega arith) inside) in
      record {
        same_length = length-set now arc.to through ∙ swept.same_length;
        no_later = λ node. omega (arith, lower node, swept.no_later node);
        from = λ node. elim (cases_eq node arc.to) [
          | inl e ↦
              let before = swept.from arc.from in
              let among : Contains arcs arc = (count, inside, sym read) in (
                before.0,
                before.1 ++ arc ∷ [],
                subst (λ x. IsWalk arcs before.0 (before.1 ++ arc ∷ []) x) (sym e) (walk-push arcs before.1 arc before.0 among before.2),
                ap (slice_index (set now arc.to through)) e ∙ omega (arith, same, is, before.3, sum_by_push (λ (a : Arc). a.seconds) before.1 arc),
              )
          | inr ne ↦ let before = swept.from node in (before.0, before.1, before.2, other node ne ∙ before.3)
        ];
        settled = λ k d lt here. elim (cases_eq k count) [
          | inl e ↦
              let at : arc ≡ get_or arcs k d = read ∙ ap (λ x. get_or arcs x arc) (sym e) ∙ get_or_default arcs k arc d here in
              subst (λ (a : Arc). slice_index (set now arc.to through) a.to ≤ slice_index (set now arc.to through) a.from + a.seconds) at
              (omega (arith, same, is, other arc.from (λ h. self (sym h))))
          | inr ne ↦
              let earlier : k < count = omega (arith, lt, ne) in
              let at : arc ≡ get_or arcs count d = read ∙ get_or_default arcs count arc d inside in
              let apart : arc.to ≢ (get_or arcs k d).from = subst (λ (a : Arc). a.to ≢ (get_or arcs k d).from) (sym at)
              (turn k count d (omega (arith, earlier)) inside) in
              omega (arith, swept.settled k d earlier here, lower (get_or arcs k d).to, other (get_or arcs k d).from (λ h. apart (sym h)))
        ];
      }

-- a lower cell keeps all low
pub low_set : (row : List ℕ) (node through : ℕ) → All (λ cell. cell ≤ far) row → through ≤ far → node < length row → All (λ cell. cell ≤ far)
    (set row node through)
low_set row node through low short within k d h = elim (cases_eq k node) [
  | inl e ↦ rw (e, get_or-set_same row node through d within) short
  | inr ne ↦ rw (get_or-set_other row node k through d ne) (low k d (omega (arith, h, length-set row node through)))
]
