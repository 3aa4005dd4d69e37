-- A list in which each piece stands once, in order.
use Rattle.std.proofs.Common.{◌≡◌, ◌≢◌, ℕ, zero, suc, ◌+◌, ◌<◌, ◌≤◌, List, [], ◌∷◌, map, length, get_or, All, sum_by, sym, refl, ap, ◌∙◌, subst, arith}
use mathlib.Core.Logic.{dite}
use native.Mathlib.Decide.{ℕ_discrete}
use Rattle.std.specs.List.Sorted.{IsPermutation, IsNonDecreasingBy}
use Rattle.std.proofs.lemmas.Bool.Decides.{nat_tests}
use Rattle.std.proofs.lemmas.List.{get_or-map, length-map}
use Rattle.std.proofs.lemmas.List.Sums.{sum_by-cons}
use Rattle.std.proofs.lemmas.List.Sorted.{All-permutation, sum_by-IsPermutation}
use Rattle.shared_work.specs.declared.worker.Done.{Done}
use Rattle.shared_work.specs.work.Claims.{at}
use Rattle.shared_work.specs.Outs.{AreRight}
use Rattle.shared_work.specs.work.Workers.{AreDoneRight, EachDoneOnce}

at-one : (k n : ℕ) → n ≡ k → at k n ≡ 1
at-one k n e = grind (arith, nat_tests)

at-none : (k n : ℕ) → n ≢ k → at k n ≡ 0
at-none k n ne = grind (arith, nat_tests)

module _ {O : Type 0} where
  abbrev count_at : ℕ → List (Done O) → ℕ
  count_at k done = sum_by (λ d. at k d.piece) done

  none_at : (k : ℕ) (ds : List (Done O)) → All (λ d. k < d.piece) ds → count_at k ds ≡ 0
  none_at k [] all = refl
  none_at k (d ∷ ds) all =
      let lt : k < d.piece = all 0 d (omega arith) in
      omega (arith, sum_by-cons (λ (x : Done O). at k x.piece) d ds, at-none k d.piece (λ e. omega arith), none_at k ds (λ i e lt. all (suc i) e (omega arith)))

  apart_from : (k : ℕ) (ds : List (Done O)) → count_at k ds ≡ 0 → All (λ d. d.piece ≢ k) ds
  apart_from k [] none i d lt = absurd (omega arith)
  apart_from k (x ∷ xs) none zero d lt = λ e. omega (arith, sum_by-cons (λ (y : Done O). at k y.piece) x xs, at-one k x.piece e, none)
  apart_from k (x ∷ xs) none (suc i) d lt = apart_from k xs (omega (arith, sum_by-cons (λ (y : Done O). at k y.piece) x xs, none)) i d (omega arith)

  -- where each piece from m on stands once, of so many, and none falls, each stands at its place
  placed : (done : List (Done O)) (m n : ℕ) → IsNonDecreasingBy (λ d. d.piece) done → All (λ d. (m ≤ d.piece) × (d.piece < m + n)) done →
      ((k : ℕ) → m ≤ k → k < m + n → count_at k done ≡ 1)
      → (length done ≡ n) × ((i : ℕ) (d : Done O) → i < n → (get_or done i d).piece ≡ m + i)
  placed [] m zero rises within once = (refl, λ i d lt. absurd (omega arith))
  placed [] m (suc n) rises within once = absurd (let z : 0 ≡ 1 = once m (omega arith) (omega arith) in omega arith)
  placed (x ∷ xs) m zero rises within once = absurd (let w = within 0 x (omega arith) in let low : m ≤ x.piece = w.0 in let high : x.piece < m + 0 =
      w.1 in omega arith)
  placed (x ∷ xs) m (suc n) rises within once =
      let w = within 0 x (omega arith) in
      let low : m ≤ x.piece = w.0 in
      let cons : (k : ℕ) → count_at k (x ∷ xs) ≡ at k x.piece + count_at k xs = λ k. sum_by-cons (λ (y : Done O). at k y.piece) x xs in
      let first : count_at m (x ∷ xs) ≡ 1 = once m (omega arith) (omega arith) in
      let head : x.piece ≡ m = dite (ℕ_discrete x.piece m) (λ e. e)
      (λ ne. let none : count_at m (x ∷ xs) ≡ 0 = none_at m (x ∷ xs) (λ i d lt. let r : x.piece ≤ (get_or (x ∷ xs) i d).piece =
      rises 0 i d (omega arith) lt in omega arith) in absurd (omega arith)) in
      let rest_none : count_at m xs ≡ 0 = (let c = cons m in let one : at m x.piece ≡ 1 = at-one m x.piece head in omega (arith, c, one, first)) in
      let more = placed xs (suc m) n
      (λ i j d le lt. rises (suc i) (suc j) d (omega arith) (omega arith))
      (λ i d lt. let v = within (suc i) d (omega arith) in let a : m ≤ (get_or xs i d).piece = v.0 in let b : (get_or xs i d).piece < m + suc n =
      v.1 in let ne : (get_or xs i d).piece ≢ m = apart_from m xs rest_none i d lt in (omega arith, omega arith))
      (λ k le lt. let c = cons k in let other : at k x.piece ≡ 0 = at-none k x.piece (λ e. omega arith) in let all : count_at k (x ∷ xs) ≡ 1 =
      once k (omega arith) (omega arith) in omega (arith, c, other, all)) in
      (ap suc more.0, at_place x xs m n head more.1)
    where
      at_place : (x : Done O) (xs : List (Done O)) (m n : ℕ) → x.piece ≡ m → ((i : ℕ) (d : Done O) → i < n → (get_or xs i d).piece ≡ suc m + i) →
          (i : ℕ) (d : Done O) → i < suc n → (get_or (x ∷ xs) i d).piece ≡ m + i
      at_place x xs m n head more zero d lt = omega (arith, head)
      at_place x xs m n head more (suc i) d lt = let r : (get_or xs i d).piece ≡ suc m + i = more i d (omega arith) in omega arith

  -- the outs of a list that was sorted: as many as pieces, and each right for its piece
  pub outs_placed : (pieces : ℕ) (right : ℕ → O → Type 0) (done sorted : List (Done O)) (outs : List O) → IsPermutation done sorted →
      IsNonDecreasingBy (λ d. d.piece) sorted
      → outs ≡ map (λ d. d.out) sorted → AreDoneRight pieces right done → EachDoneOnce pieces done → (length outs ≡ pieces) × AreRight right outs
  outs_placed pieces right done sorted outs moved rises is rights once =
      let all = All-permutation (λ (d : Done O). (d.piece < pieces) × right d.piece d.out) done sorted moved rights in
      let p = placed sorted 0 pieces rises (λ i d lt. let b : (get_or sorted i d).piece < pieces = (all i d lt).0 in (omega arith, omega arith))
      (λ k le lt. sum_by-IsPermutation (λ (d : Done O). at k d.piece) done sorted moved ∙ once k (omega arith)) in
      let long : length outs ≡ length sorted = ap length is ∙ length-map sorted (λ (d : Done O). d.out) in (
        long ∙ p.0,
        λ k d lt.
            let e : Done O = record { piece = 0; out = d } in
            let inside : k < length sorted = omega (arith, long, lt) in
            let piece_is : (get_or sorted k e).piece ≡ k = p.1 k e (omega (arith, p.0, inside)) ∙ (let z : 0 + k ≡ k = omega arith in z) in
            let out_is : get_or outs k d ≡ (get_or sorted k e).out = ap (λ l. get_or l k d) is ∙ get_or-map (λ (x : Done O). x.out) sorted k e d inside in
            subst (λ (x : ℕ × O). right x.0 x.1) (λ i. (piece_is i, sym out_is i)) (all k e inside).1,
      )
