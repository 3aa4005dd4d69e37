-- Numbers, each once.
use Rattle.std.proofs.lemmas.Bool.Decides.{nat_tests}
use Rattle.std.proofs.Common.{rules, ◌≡◌, ◌≢◌, ℕ, ◌≤◌, Bool, true, false, not, cond, eqb, List, [], ◌∷◌, ◌++◌, length, refl, sym, ap, ◌∙◌, arith}
use Rattle.std.specs.List.{All, filter, list_any}
use Rattle.std.proofs.lemmas.Bool.{cases_Bool, or_cases, or_parts, or_left, or_right, eq-eqb, eqb-true, eqb-false, ne_eqb}
use Rattle.std.proofs.lemmas.List.{append-nil}
use Rattle.std.proofs.lemmas.List.Elements.{All-nil, All-cons, All-head, All-tail, filter-append}
use Rattle.pool_base.specs.Distinct.{distinct}

-- where no number passes for m, none is m
none_is : (ns : List ℕ) (m : ℕ) → list_any (λ n. eqb n m) ns ≡ false → All (λ n. n ≢ m) ns
none_is [] m none = All-nil (λ n. n ≢ m)
none_is (n ∷ ns) m none = search (rules, or_parts, All-cons, eqb-false, (none_is ns m))

-- a number that passes is found behind the others
pub any-more : (p : ℕ → Bool) (ns : List ℕ) (m : ℕ) → p m ≡ true → list_any p (ns ++ m ∷ []) ≡ true
any-more p [] m passes = or_left (p m) false passes
any-more p (n ∷ ns) m passes = or_right (p n) (list_any p (ns ++ m ∷ [])) (any-more p ns m passes)

-- one more number that is new stands at the end
pub distinct-push_new : (ns : List ℕ) (m : ℕ) → All (λ n. n ≢ m) ns → distinct (ns ++ m ∷ []) ≡ distinct ns ++ m ∷ []
distinct-push_new [] m new = refl
distinct-push_new (n ∷ ns) m new =
    let rest = distinct-push_new ns m (All-tail (λ k. k ≢ m) n ns new) in
    let other : n ≢ m = All-head (λ k. k ≢ m) n ns new in
    let apart : eqb m n ≡ false = ne_eqb m n (λ e. other (sym e)) in
    ap (λ ks. n ∷ filter (λ k. not (eqb k n)) ks) rest
    ∙ ap (λ ks. n ∷ ks) (filter-append (λ k. not (eqb k n)) (distinct ns) (m ∷ []))
    ∙ ap (λ b. n ∷ (filter (λ k. not (eqb k n)) (distinct ns) ++ cond (not b) (m ∷ []) [])) apart

-- one more number that was there changes nothing
pub distinct-push_old : (ns : List ℕ) (m : ℕ) → list_any (λ n. eqb n m) ns ≡ true → distinct (ns ++ m ∷ []) ≡ distinct ns
distinct-push_old [] m old = absurd cc
distinct-push_old (n ∷ ns) m old = search (
  rules,
  cases_Bool,
  or_cases,
  eqb-true,
  eq-eqb,
  distinct-push_new,
  none_is,
  filter-append,
  append-nil,
  (distinct-push_old ns m),
)

-- one more number, new or not
pub distinct-push : (ns : List ℕ) (m : ℕ) → distinct (ns ++ m ∷ []) ≡ cond (list_any (λ n. eqb n m) ns) (distinct ns) (distinct ns ++ m ∷ [])
distinct-push ns m = search (rules, cases_Bool, distinct-push_old, distinct-push_new, none_is)

-- without a number that doesn't pass, as many pass
any-without : (p : ℕ → Bool) (n : ℕ) (ms : List ℕ) → p n ≡ false → list_any p (filter (λ m. not (eqb m n)) ms) ≡ list_any p ms
any-without p n [] fails = refl
any-without p n (m ∷ ms) fails = search (rules, cases_Bool, eqb-true, (any-without p n ms fails))

-- a number is found among the distinct ones just where it is found at all
pub any-distinct : (p : ℕ → Bool) (ns : List ℕ) → list_any p (distinct ns) ≡ list_any p ns
any-distinct p [] = refl
any-distinct p (n ∷ ns) = grind (arith, nat_tests, cases_Bool, (any-without p n), (any-distinct p ns))

fewer : (p : ℕ → Bool) (ns : List ℕ) → length (filter p ns) ≤ length ns
fewer p [] = omega arith
fewer p (n ∷ ns) = search (rules, cases_Bool, (fewer p ns))

-- there are at most as many distinct numbers
pub length-distinct : (ns : List ℕ) → length (distinct ns) ≤ length ns
length-distinct [] = omega arith
length-distinct (n ∷ ns) = omega (arith, fewer (λ k. not (eqb k n)) (distinct ns), length-distinct ns)
