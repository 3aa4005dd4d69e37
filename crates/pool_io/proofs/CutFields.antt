-- Fields that lie one behind the other, cut at their ends.
use Rattle.std.proofs.Common.{
  ◌≡◌,
  ℕ,
  zero,
  suc,
  ◌+◌,
  ◌-◌,
  ◌<◌,
  ◌≤◌,
  List,
  [],
  ◌∷◌,
  ◌++◌,
  length,
  get_or,
  take,
  drop,
  refl,
  sym,
  ap,
  ◌∙◌,
  subst,
  arith,
  length-append,
  length-drop,
  le_refl,
}
use Rattle.std.specs.Prelude.{slice_index, slice_range}
use Rattle.std.proofs.lemmas.List.{take_all, drop_at}
use Rattle.pool_io.proofs.Common.{take-append-le, drop-append-le, AreEnds, cut_fields, start_at}

pub length-cut_fields : (start : ℕ) (ends bytes : List ℕ) → length (cut_fields start ends bytes) ≡ length ends
length-cut_fields start [] bytes = refl
length-cut_fields start (end ∷ ends) bytes = ap suc (length-cut_fields end ends bytes)

start_le : (start : ℕ) (ends : List ℕ) (all : ℕ) → AreEnds start ends all → start ≤ all
start_le start [] all is = omega (arith, is)
start_le start (end ∷ ends) all is = omega (arith, is.0, start_le end ends all is.1)

-- what is added behind a field's end doesn't change it
range_append : (bytes more : List ℕ) (start end : ℕ) → start ≤ end → end ≤ length bytes → slice_range (bytes ++ more) start end ≡ slice_range bytes start end
range_append bytes more start end rise within =
    rw (drop-append-le start bytes more (omega arith)) (take-append-le (end - start) (drop start bytes) more (omega (arith, length-drop start bytes)))

range_added : (bytes more : List ℕ) → slice_range (bytes ++ more) (length bytes) (length bytes + length more) ≡ more
range_added bytes more =
    let count : length bytes + length more - length bytes ≡ length more = omega arith in
    rw (drop_at bytes more (length bytes) refl, count) (take_all (length more) more (le_refl (length more)))

pub ends_more : (start : ℕ) (ends : List ℕ) (all more : ℕ) → AreEnds start ends all → AreEnds start (ends ++ (all + more) ∷ []) (all + more)
ends_more start [] all more is = (omega (arith, is), refl)
ends_more start (end ∷ ends) all more is = (is.0, ends_more end ends all more is.1)

pub cut_fields-more : (start : ℕ) (ends bytes field : List ℕ) → AreEnds start ends (length bytes) →
    cut_fields start (ends ++ (length bytes + length field) ∷ []) (bytes ++ field) ≡ cut_fields start ends bytes ++ field ∷ []
cut_fields-more start [] bytes field is = rw is (ap (λ x. x ∷ []) (range_added bytes field))
cut_fields-more start (end ∷ ends) bytes field is =
    rw (range_append bytes field start end is.0 (start_le end ends (length bytes) is.1), cut_fields-more end ends bytes field is.1) refl

pub record FieldAt (start : ℕ) (ends : List ℕ) (bytes : List ℕ) (place : ℕ) : Type 0 where
  pub rises : start_at start ends place ≤ get_or ends place 0
  pub within : get_or ends place 0 ≤ length bytes
  pub field : get_or (cut_fields start ends bytes) place [] ≡ slice_range bytes (start_at start ends place) (get_or ends place 0)

-- behind the first field, the start of a field is the end before it
start_behind : (end : ℕ) (ends : List ℕ) (place : ℕ) → start_at end ends place ≡ get_or (end ∷ ends) place 0
start_behind end ends zero = refl
start_behind end ends (suc place) = refl

pub field_here : (start : ℕ) (ends bytes : List ℕ) (place : ℕ) → AreEnds start ends (length bytes) → place < length ends → FieldAt start ends bytes place
field_here start [] bytes place is below = absurd (omega (arith, below))
field_here start (end ∷ ends) bytes zero is below = record { rises = is.0; within = start_le end ends (length bytes) is.1; field = refl }
field_here start (end ∷ ends) bytes (suc place) is below =
    let at = field_here end ends bytes place is.1 (omega (arith, below)) in
    let same = start_behind end ends place in
    record { rises = rw same at at.rises; within = at.within; field = rw same at at.field }
