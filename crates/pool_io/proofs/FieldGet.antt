-- The field that a record gives at a place.
use Rattle.std.proofs.Common.{◌≡◌, ℕ, ◌<◌, List, [], Option, Some, None, Bor, length, get_or, refl, sym, option_map, IsSome}
use Rattle.pool_io.proofs.Common.{field_at}
use Rattle.csv.proofs.RecordFacts.{field-get, field-there}

pub field_is_there : (found : Option (Bor (List ℕ))) (fields : List (List ℕ)) (place : ℕ) → place < length fields →
    option_map (λ (s : Bor (List ℕ)). s.now) found ≡ field_at fields place → IsSome found
field_is_there None fields place within e = absurd (field-there fields place within (sym e))
field_is_there (Some x) fields place within e = refl

pub field_is : (found : Option (Bor (List ℕ))) (x : Bor (List ℕ)) (fields : List (List ℕ)) (place : ℕ) → found ≡ Some x →
    option_map (λ (s : Bor (List ℕ)). s.now) found ≡ field_at fields place → get_or fields place [] ≡ x.now
field_is found x fields place is e = field-get fields place x.now (sym (rw is at e))

pub field_is_none : (found : Option (Bor (List ℕ))) (fields : List (List ℕ)) (place : ℕ) → place < length fields → found ≡ None →
    option_map (λ (s : Bor (List ℕ)). s.now) found ≡ field_at fields place → ⊥
field_is_none found fields place within is e = field-there fields place within (sym (rw is at e))
