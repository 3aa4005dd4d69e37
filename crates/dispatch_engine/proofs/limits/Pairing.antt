use Rattle.std.proofs.Common.{rules, ◌≡◌, ℕ, ◌+◌, ◌<◌, ◌≤◌, List, [], ◌∷◌, ◌++◌, length, get_or, Some, arith}
use Rattle.dispatch_engine.proofs.Common.{get_or_append_left, get_or_push, slice_get_within}
use Rattle.std.proofs.lemmas.Option.{get_or_from_slice_get}
use Rattle.std.specs.List.{slice_get}

module _ {X Y : Type 0} (R : X → Y → Type 0) (d : Y) where
  -- the first n of one list fit those of another, place by place
  abbrev pub Pairs : ℕ → List X → List Y → Type 0
  Pairs n xs ys = (k : ℕ) (x : X) → k < n → slice_get xs k ≡ Some x → R x (get_or ys k d)

  pub pairs_more : (n : ℕ) (xs : List X) (ys : List Y) (x : X) (y : Y) → n < length xs → x ≡ get_or xs n x → length ys ≡ n → R x y → Pairs n xs ys →
      Pairs (n + 1) xs (ys ++ y ∷ [])
  pairs_more n xs ys x y h is count good upto k z lt e = search (rules, get_or_append_left, get_or_from_slice_get, get_or_push)

  pub pairs_all : (n : ℕ) (xs : List X) (ys : List Y) → length xs ≤ n → Pairs n xs ys → (k : ℕ) (x : X) → slice_get xs k ≡ Some x → R x (get_or ys k d)
  pairs_all n xs ys h upto k x e = upto k x (let lt = slice_get_within xs k x e in omega arith) e
