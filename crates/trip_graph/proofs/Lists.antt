-- Lists that loops make.
use Rattle.std.proofs.Common.{
  ◌≡◌,
  ℕ,
  ◌+◌,
  ◌<◌,
  List,
  [],
  ◌∷◌,
  ◌++◌,
  length,
  get_or,
  map,
  take,
  Result,
  Ok,
  Err,
  IfOk,
  IsErr,
  sym,
  ap,
  ◌∙◌,
  append_assoc,
  ◌*◌,
  ◌≤◌,
  arith,
}
use Rattle.std.proofs.lemmas.Bool.{false≢true}
use Rattle.trip_graph.proofs.Common.{map-append, take_more}
use Rattle.std.proofs.lemmas.Bool.Decides.{nat_tests}

-- what is made of one item more is put behind
pub map_pushed : {X Y : Type 0} (f : X → Y) (xs : List X) (i : ℕ) (x : X) (y : Y) (before old new : List Y) → i < length xs → x ≡ get_or xs i x → y ≡ f x
    → old ≡ before ++ map f (take i xs) → new ≡ old ++ y ∷ [] → new ≡ before ++ map f (take (i + 1) xs)
map_pushed f xs i x y before old new within read is so_far pushed =
    let more : take (i + 1) xs ≡ take i xs ++ x ∷ [] = take_more xs i x within ∙ ap (λ z. take i xs ++ z ∷ []) (sym read) in
    pushed ∙ rw (so_far, is, more, map-append f (take i xs) (x ∷ [])) (append_assoc before (map f (take i xs)) (f x ∷ []))

-- nothing is said of what failed
pub on_err : {A E : Type 0} (r : Result A E) (P : A → Type 0) → IsErr r → IfOk r P
on_err (Ok x) P is = absurd (false≢true is)
on_err (Err e) P is = tt

-- after one row more, so many steps a row
pub steps_next : (i r first before now : ℕ) → before ≤ first + i * r → now ≤ before + r → now ≤ first + (i + 1) * r
steps_next i r first before now so_far more = grind (arith, nat_tests)

pub steps_within : (i n r first before now : ℕ) → i < n → before ≤ first + i * r → now ≤ before + r → now ≤ first + n * r
steps_within i n r first before now within so_far more = grind (arith, nat_tests, (steps_next i r first before now so_far more))
