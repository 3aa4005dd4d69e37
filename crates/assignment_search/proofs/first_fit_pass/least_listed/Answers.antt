use Rattle.std.proofs.Common.{
  ◌≡◌,
  ◌&&◌,
  ℕ,
  ◌+◌,
  ◌<◌,
  Bool,
  false,
  List,
  length,
  get_or,
  Option,
  Some,
  ℤ,
  IfSome,
  neg_ℤ,
  pos,
  ◌≤ℤ◌,
  sym,
  ap,
  ◌∙◌,
  subst,
  arith,
  w64,
  to_z,
  of_z,
}
use Rattle.assignment_search.proofs.Common.{lesser, has_rider, usable_of, room_at, list_start}
use Rattle.std.proofs.lemmas.Int.{to_z-of_z}
use Rattle.assignment_search.specs.work.Index.{IsRowListed}
use Rattle.assignment_search.proofs.ListedLemmas.{IsLeastListed, listed_take, listed_pass, listed_done}
use Rattle.assignment_search.proofs.first_fit_pass.least_listed.Goals.{in-Some, in_default}
use Rattle.assignment_search.proofs.first_fit_pass.least_listed.Goals as goal

pub loop-place-preserved : goal.loop-place-preserved
loop-place-preserved c =
    let g = c.args.graph.now in
    let u = usable_of c.args.allowed.now in
    let r = c.args.rider in
    let n = length g.rows in
    let p : ℕ → Bool = λ k. u k && has_rider g k r in
    let f : ℕ → ℤ = room_at g u c.args.multipliers.now in
    let listed : List ℕ = c.args.index.now.rows.items in
    let from = list_start c.args.index.now r in
    let place = c.loop-place.place in
    elim c.match-row_listed.branch [
      | in-Some w ↦
          let at = subst (λ (xs : List ℕ). IsRowListed g u xs r place w.in-Some.row) c.as_slice.ensures.value w.in-Some.ensures.some in
          let back : to_z w64 (of_z w64 w.lesser_room.result) ≡ w.lesser_room.result = to_z-of_z w64 w.lesser_room.result
          (record { sfits = w.lesser_room.type_inv }) in
          let passed : to_z w64 (of_z w64 w.room_of-room.result) ≡ w.room_of-room.result = to_z-of_z w64 w.room_of-room.result
          (record { sfits = w.room_of-room.type_inv }) in
          record {
            value = listed_take n p f listed from place w.in-Some.row c.loop-place.least _ w.room_of-room.result c.loop-place.invariant.value at.row at.exists
                at.usable_has w.room_of-room.ensures.value
                (w.least-is ∙ ap Some (back ∙ w.lesser_room.ensures.value ∙ ap (lesser c.loop-place.least) passed));
            small = subst (λ (o : Option ℤ). IfSome o (λ z. neg_ℤ (pos 8000000000000) ≤ℤ z)) (sym (w.least-is ∙ ap Some back)) w.lesser_room.ensures.low;
          }
      | in_default w ↦ record {
        value = subst (λ (o : Option ℤ). IsLeastListed n p f listed from (place + 1) o) (sym w.least-is)
            (listed_pass n p f listed from place c.loop-place.least c.loop-place.invariant.value
            (subst (λ (xs : List ℕ). place < length xs → get_or xs place 0 < n → p (get_or xs place 0) ≡ false) c.as_slice.ensures.value
            w.in_default.ensures.none));
        small = subst (λ (o : Option ℤ). IfSome o (λ z. neg_ℤ (pos 8000000000000) ≤ℤ z)) (sym w.least-is) c.loop-place.invariant.small;
      }
    ]

pub returns-clause-value : goal.returns-clause-value
returns-clause-value c =
    listed_done c.args.graph.now (usable_of c.args.allowed.now) c.args.multipliers.now c.args.index.now c.args.rider c.loop-place.place c.loop-place.least
    c.requires.index
    (omega (arith, c.end-place-end.ensures, c.loop-place-test.false)) c.loop-place.invariant.value
