use Rattle.std.proofs.Common.{rules, ◌≡◌, ℕ, ◌+◌, ◌<◌, ◌≤◌, ◌⊎◌, inl, inr, List, [], ◌∷◌, ◌++◌, length, get_or, sym, ap, ◌∙◌, subst, arith, ⊎_elim}
use Rattle.trip_graph.proofs.Common.{length_push, get_or_append_left, get_or_push, All-nil, All-push, Contains-append_left, Contains-push}
use Rattle.std.specs.List.{Contains}
use Rattle.std.proofs.lemmas.Bool.{cases_lt}
use Rattle.stop_orders.specs.PairList.{IsBefore}
pub use Rattle.trip_graph.specs.work.pairs.Listing.{ListsBefore}

none_before : (p : ℕ × ℕ) → IsBefore p (0, 0) → ⊥
none_before p h = let none : p.0 ≡ 0 = (let le = h.0 in omega arith) in let lt = h.1 none in omega arith

lower_first : (p : ℕ × ℕ) (a b : ℕ) → p.0 < a → IsBefore p (a, b)
lower_first p a b h = (omega arith, λ e. absurd (omega arith))

before_next : (p : ℕ × ℕ) (a b : ℕ) → IsBefore p (a, b + 1) → IsBefore p (a, b) ⊎ ((p.0 ≡ a) × (p.1 ≡ b))
before_next p a b h = search (rules, lower_first)

next_before : (p : ℕ × ℕ) (a b : ℕ) → IsBefore p (a, b) → IsBefore p (a, b + 1)
next_before p a b h = (h.0, λ e. let lt = h.1 e in omega arith)

module _ (X : Type 0) (pair : X → ℕ × ℕ) (entry : ℕ → ℕ → X) (none : X) (E : ℕ → ℕ → Type 0) where
  abbrev Lists : ℕ → ℕ → List X → Type 0
  Lists a b xs = ListsBefore X pair entry none E a b xs

  pub lists_none : Lists 0 0 []
  lists_none =
      record {
        right = All-nil (λ x. E (pair x).0 (pair x).1);
        rising = λ k h. absurd (omega arith);
        before = All-nil (λ x. IsBefore (pair x) (0, 0));
        whole = λ c d e h. absurd (none_before (c, d) h);
      }

  pub lists_taken : (a b : ℕ) (xs : List X) (x : X) → pair x ≡ (a, b) → x ≡ entry a b → E a b → Lists a b xs → Lists a (b + 1) (xs ++ x ∷ [])
  lists_taken a b xs x is same e l =
      let n = length_push xs x in
      record {
        right = All-push (λ y. E (pair y).0 (pair y).1) xs x l.right (rw is e);
        rising = λ k h. elim (cases_lt (k + 1) (length xs)) as (λ _. IsBefore (pair (get_or (xs ++ x ∷ []) k none))
            (pair (get_or (xs ++ x ∷ []) (k + 1) none))) [
              | inl lt ↦
                  let low : k < length xs = omega arith in
                  rw (get_or_append_left xs (x ∷ []) none k low, get_or_append_left xs (x ∷ []) none (k + 1) lt) (l.rising k lt)
              | inr ge ↦
                  let low : k < length xs = omega arith in let last : length xs ≡ k + 1 = omega arith in
                  rw (get_or_append_left xs (x ∷ []) none k low, get_or_push xs x none (k + 1) last, is) (l.before k none low)
            ];
        before = All-push (λ y. IsBefore (pair y) (a, b + 1)) xs x (λ k d h. next_before _ a b (l.before k d h)) (rw is (omega arith, λ _. omega arith));
        whole = λ c d f h. ⊎_elim
            (λ w. Contains-append_left xs (x ∷ []) (entry c d) (l.whole c d f w))
            (λ w. subst (λ (y : X). Contains (xs ++ x ∷ []) y) (same ∙ ap (λ (i : ℕ). entry i b) (sym w.0) ∙ ap (λ (i : ℕ). entry c i) (sym w.1))
            (Contains-push xs x))
            (before_next (c, d) a b h);
      }

  pub lists_passed : (a b : ℕ) (xs : List X) → (E a b → ⊥) → Lists a b xs → Lists a (b + 1) xs
  lists_passed a b xs never l =
      record {
        right = l.right;
        rising = l.rising;
        before = λ k d h. next_before _ a b (l.before k d h);
        whole = λ c d f h. ⊎_elim (λ w. l.whole c d f w) (λ w. absurd (never (subst (λ (i : ℕ). E a i) w.1 (subst (λ (i : ℕ). E i d) w.0 f))))
            (before_next (c, d) a b h);
      }

  -- the pairs between two second numbers are none
  pub lists_skipped : (a b c : ℕ) (xs : List X) → b ≤ c → ((d : ℕ) → b ≤ d → d < c → E a d → ⊥) → Lists a b xs → Lists a c xs
  lists_skipped a b c xs up never l =
      record {
        right = l.right;
        rising = l.rising;
        before = λ k d h. raise (pair (get_or xs k d)) (l.before k d h);
        whole = λ x y f h. elim (cases_lt x a) as (λ _. Contains xs (entry x y)) [
          | inl lt ↦ l.whole x y f (lower_first (x, y) a b lt)
          | inr ge ↦
              let same : x ≡ a = (let le = h.0 in omega arith) in
              elim (cases_lt y b) as (λ _. Contains xs (entry x y)) [
                | inl low ↦ l.whole x y f (h.0, λ _. low)
                | inr over ↦ absurd (never y over (h.1 same) (subst (λ (i : ℕ). E i y) same f))
              ]
        ];
      }
    where
      raise : (p : ℕ × ℕ) → IsBefore p (a, b) → IsBefore p (a, c)
      raise p h = (h.0, λ e. let lt = h.1 e in omega arith)

  -- a first number has no more pairs
  pub lists_next : (a n : ℕ) (xs : List X) → ((d : ℕ) → E a d → d < n) → Lists a n xs → Lists (a + 1) 0 xs
  lists_next a n xs under l =
      record {
        right = l.right;
        rising = l.rising;
        before = λ k d h. raise (pair (get_or xs k d)) (l.before k d h);
        whole = λ x y f h. elim (cases_lt x a) as (λ _. Contains xs (entry x y)) [
          | inl lt ↦ l.whole x y f (lower_first (x, y) a n lt)
          | inr ge ↦
              let same : x ≡ a = lower (x, y) ge h in
              let second : y < n = under y (subst (λ (i : ℕ). E i y) same f) in
              l.whole x y f (omega arith, λ _. second)
        ];
      }
    where
      raise : (p : ℕ × ℕ) → IsBefore p (a, n) → IsBefore p (a + 1, 0)
      raise p h = lower_first p (a + 1) 0 (let le = h.0 in omega arith)

      lower : (p : ℕ × ℕ) → a ≤ p.0 → IsBefore p (a + 1, 0) → p.0 ≡ a
      lower p ge h = elim (cases_lt p.0 (a + 1)) as (λ _. p.0 ≡ a) [
        | inl lt ↦ omega arith
        | inr over ↦ absurd (let same : p.0 ≡ a + 1 = (let le = h.0 in omega arith) in let lt = h.1 same in omega arith)
      ]

  -- where every first number is below a, the list is whole
  pub lists_whole : (a n : ℕ) (xs : List X) → n ≤ a → ((c d : ℕ) → E c d → c < n) → Lists a 0 xs → (c d : ℕ) → E c d → Contains xs (entry c d)
  lists_whole a n xs h under l c d e = l.whole c d e (lower_first (c, d) a 0 (let lt = under c d e in omega arith))
