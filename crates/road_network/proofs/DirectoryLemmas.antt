-- Different names that are numbered in turn.
use Rattle.std.proofs.Common.{
  rules,
  ◌≡◌,
  ℕ,
  ◌+◌,
  ◌<◌,
  eqb,
  true,
  false,
  cond,
  Bool,
  List,
  [],
  ◌∷◌,
  ◌++◌,
  length,
  get_or,
  take,
  Option,
  Some,
  position,
  refl,
  sym,
  ap,
  ◌∙◌,
  subst,
  arith,
  length-append,
}
use Rattle.std.proofs.lemmas.Bool.Decides.{nat_tests}
use Rattle.std.proofs.lemmas.Bool.{eqb-true}
use Rattle.std.proofs.lemmas.List.{get_or-take, length-take-le, take_more}
use Rattle.std.proofs.lemmas.Grind.{get_or_default_zero}
use Rattle.std.proofs.lemmas.List.Folds.{list_any_none, position_or_len_push}
use Rattle.std.proofs.lemmas.Map.Keys.{apart_from_distinct}
use Rattle.std.specs.List.{IsDistinct, list_any, position_or_len}
use Rattle.std.specs.HashMap.{HashMap, Updates}
use Rattle.std.specs.Prelude.{is_some}
use Rattle.road_network.specs.work.Directory.{FindsEach}

-- a name has a number where it is one of the names
pub found : (name : ℕ) (names : List ℕ) → is_some (position (eqb name) names) ≡ list_any (eqb name) names
found name [] = refl
found name (x ∷ xs) = search (rules, found name xs)

none : (p : ℕ → Bool) (names : List ℕ) → list_any p names ≡ false → position_or_len p names ≡ length names
none p [] e = refl
none p (x ∷ xs) e = grind (arith, none p xs)

first : (p : ℕ → Bool) (names : List ℕ) (name : ℕ) → p name ≡ true → list_any p names ≡ false → position p (names ++ name ∷ []) ≡ Some (length names)
first p names name own new = grind (arith, nat_tests, none p names new, position_or_len_push p names name, length-append)

apart : (p : ℕ → Bool) (names : List ℕ) (name : ℕ) → p name ≡ false → position p (names ++ name ∷ []) ≡ position p names
apart p names name other = grind (arith, nat_tests, position_or_len_push p names name, length-append)

by : (b : Bool) (name other : ℕ) (names : List ℕ) → eqb name other ≡ b → list_any (eqb name) names ≡ false →
    position (eqb other) (names ++ name ∷ []) ≡ cond b (Some (length names)) (position (eqb other) names)
by true name other names e new = subst (λ o. position (eqb o) (names ++ name ∷ []) ≡ Some (length names)) (eqb-true name other e)
    (first (eqb name) names name (grind (arith, nat_tests)) new)
by false name other names e new = apart (eqb other) names name (grind (arith, nat_tests))

position_push : (name other : ℕ) (names : List ℕ) → list_any (eqb name) names ≡ false → position (eqb other) (names ++ name ∷ []) ≡ cond (eqb name other)
    (Some (length names)) (position (eqb other) names)
position_push name other names new = by (eqb name other) name other names refl new

other_way : (a b : ℕ) → eqb a b ≡ false → eqb b a ≡ false
other_way a b e = grind (arith, nat_tests)

-- a name differs from those before it
new_at : (names : List ℕ) (i : ℕ) → IsDistinct eqb names → i < length names → list_any (eqb (get_or names i 0)) (take i names) ≡ false
new_at names i distinct within =
    let long = length-take-le i names (omega (arith, within)) in
    list_any_none (eqb (get_or names i 0)) (take i names)
    (λ k d below.
    let before : k < i = omega (arith, long, below) in
    let apart : eqb (get_or names k d) (get_or names i 0) ≡ false = rw (get_or_default_zero names i d within) at
    (apart_from_distinct eqb names k i d distinct before within) in
    rw (get_or-take i names k d before) (other_way (get_or names k d) (get_or names i 0) apart))

-- one name more is found
pub FindsEach-more : {S : Type 0} (names : List ℕ) (i : ℕ) (numbers more : HashMap ℕ ℕ S) → IsDistinct eqb names → i < length names →
    FindsEach (take i names) numbers → Updates eqb numbers more (get_or names i 0) (Some i) → FindsEach (take (i + 1) names) more
FindsEach-more names i numbers more distinct within each updates =
    λ other.
    let own = eqb (get_or names i 0) other in
    let long = length-take-le i names (omega (arith, within)) in
    let push =
    ap (position (eqb other)) (take_more names i 0 within)
    ∙ position_push (get_or names i 0) other (take i names) (new_at names i distinct within)
    ∙ ap (λ (n : ℕ). cond own (Some n) (position (eqb other) (take i names))) long in
    updates.0 other ∙ ap (λ (p : Option ℕ). cond own (Some i) p) (each other) ∙ sym push
