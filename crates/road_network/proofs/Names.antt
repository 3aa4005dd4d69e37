-- Names and their indexes in a list of nodes.
use Rattle.std.proofs.Common.{
  ◌≡◌,
  ℕ,
  ◌<◌,
  eqb,
  true,
  false,
  List,
  length,
  get_or,
  Option,
  Some,
  None,
  slice_get,
  position,
  refl,
  ap,
  ◌∙◌,
  arith,
  All,
  Contains,
  IfSome,
  nat_lt,
}
use Rattle.road_network.proofs.Common.{IsDistinct, list_any, position_or_len, cases_Bool, nat_tests, passes_at_first, position_or_len_is, All-push, with_name}
use Rattle.std.proofs.lemmas.Option.{slice_get-get_or}
use Rattle.std.proofs.lemmas.List.Quantifiers.{position-Some}
use Rattle.std.proofs.lemmas.Map.Keys.{any_passes_from_place, apart_from_distinct}
use Rattle.road_network.proofs.Numbering.{any_found}

same_name : (a b : ℕ) → eqb a b ≡ true → b ≡ a
same_name a b e = grind (arith, nat_tests)

other_way : (a b : ℕ) → eqb a b ≡ false → eqb b a ≡ false
other_way a b e = grind (arith, nat_tests)

own_name : (a : ℕ) → eqb a a ≡ true
own_name a = grind (arith, nat_tests)

-- a test that finds a name, and the name
pub any_is-Contains : (nodes : List ℕ) (name : ℕ) → (list_any (eqb name) nodes ≡ true → Contains nodes name) ×
    (Contains nodes name → list_any (eqb name) nodes ≡ true)
any_is-Contains nodes name = (
  λ e.
      let found = any_found (eqb name) nodes e in (
        position_or_len (eqb name) nodes,
        found,
        same_name name (get_or nodes (position_or_len (eqb name) nodes) name)
            (passes_at_first (eqb name) nodes name found),
      ),
  λ there. any_passes_from_place (eqb name) nodes there.0 name (slice_get-get_or nodes there.0 name there.1 ∙ ap Some there.2) (own_name name),
)

pub named_at : (found : Option ℕ) (nodes : List ℕ) (name : ℕ) → found ≡ position (eqb name) nodes → IfSome found (λ index. slice_get nodes index ≡ Some name)
named_at None nodes name e = tt
named_at (Some index) nodes name e = grind (arith, nat_tests, position-Some, (slice_get-get_or nodes index name), (same_name name))

-- where names are distinct, the index of the name at a place is the place
pub position-own : (nodes : List ℕ) (index name : ℕ) → IsDistinct eqb nodes → index < length nodes → name ≡ get_or nodes index 0 →
    position (eqb name) nodes ≡ Some index
position-own nodes index name distinct within is =
    let own : eqb name (get_or nodes index 0) ≡ true = rw is (own_name (get_or nodes index 0)) in
    let first = position_or_len_is (eqb name) nodes index 0 (omega (arith, within)) (λ k below. rw is
    (other_way (get_or nodes k 0) (get_or nodes index 0) (apart_from_distinct eqb nodes k index 0 distinct below within))) (λ _. own) in
    let test : nat_lt index (length nodes) ≡ true = grind (arith, nat_tests) in
    rw (first, test) refl

pub All-with_name : (P : ℕ → Type 0) (nodes : List ℕ) (name : ℕ) → All P nodes → P name → All P (with_name nodes name)
All-with_name P nodes name all here = grind (arith, nat_tests, cases_Bool, (All-push P nodes name all here))
