-- Two nodes that a node of low rank joins have a common hub that joins them as well (canonical labels cover).
use Rattle.std.proofs.Common.{◌≡◌, ◌≢◌, ℕ, zero, suc, ◌+◌, ◌<◌, ◌≤◌, ◌⊎◌, inl, inr, arith}
use Rattle.travel_times.proofs.Common.{cases_eq, cases_lt, never, longest}
use Rattle.travel_times.proofs.labels.Times.{IsMetric}

-- no node of a rank below the bound lies on a shortest way
abbrev pub IsClear : ℕ → (ℕ → ℕ → ℕ) → (ℕ → ℕ) → ℕ → ℕ → ℕ → Type 0
IsClear n time rank p q bound = (w : ℕ) → w < n → rank w < bound → time p w + time w q ≢ time p q

-- one of the first k nodes does, or none
lower_or_none : (time : ℕ → ℕ → ℕ) (rank : ℕ → ℕ) (p q bound k : ℕ) → ((w : ℕ) × (w < k) × (rank w < bound) × (time p w + time w q ≡ time p q)) ⊎ IsClear k time
    rank p q bound
lower_or_none time rank p q bound zero = inr (λ w h. absurd (omega arith))
lower_or_none time rank p q bound (suc k) =
    let past : IsClear k time rank p q bound → (rank k < bound → time p k + time k q ≢ time p q) → IsClear (suc k) time rank p q bound =
    λ none here w h low. elim (cases_lt w k) [
      | inl before ↦ none w before low
      | inr after ↦ let is : k ≡ w = omega arith in (rw is at here) low
    ] in
    elim (lower_or_none time rank p q bound k) [
      | inl found ↦ inl (found.0, omega (arith, found.1), found.2, found.3)
      | inr none ↦ elim (cases_lt (rank k) bound) [
        | inl low ↦ elim (cases_eq (time p k + time k q) (time p q)) [ inl e ↦ inl (k, omega arith, low, e) | inr ne ↦ inr (past none (λ _. ne)) ]
        | inr high ↦ inr (past none (λ low. absurd (omega arith)))
      ]
    ]

-- a common hub of two nodes, that joins them within so many seconds
pub record IsCover (n : ℕ) (time : ℕ → ℕ → ℕ) (rank : ℕ → ℕ) (a b v most : ℕ) : Type 0 where
  pub within : v < n
  pub from : time a v ≤ longest
  pub from_clear : IsClear n time rank a v (rank v)
  pub to : time v b ≤ longest
  pub to_clear : IsClear n time rank v b (rank v)
  pub least : time a v + time v b ≤ most

pub cover : (n : ℕ) (time : ℕ → ℕ → ℕ) (rank : ℕ → ℕ) → IsMetric n time → (fuel a b w : ℕ) → a < n → b < n → w < n → rank w < fuel → time a w ≤ longest →
    time w b ≤ longest
    → (v : ℕ) × (rank v ≤ rank w) × IsCover n time rank a b v (time a w + time w b)
cover n time rank metric zero a b w ha hb hw short from to = absurd (omega arith)
cover n time rank metric (suc fuel) a b w ha hb hw short from to =
    let finite : (p q : ℕ) → p < n → q < n → time p q < never → time p q ≤ longest = λ p q hp hq less. elim (metric.range p q hp hq)
    [ inl h ↦ h | inr e ↦ absurd (omega (arith, e)) ] in
    let again : (v : ℕ) → v < n → rank v < rank w → time a v ≤ longest → time v b ≤ longest → time a v + time v b ≤ time a w + time w b
    → (u : ℕ) × (rank u ≤ rank w) × IsCover n time rank a b u (time a w + time w b) = λ v hv low av vb less.
    let found = cover n time rank metric fuel a b v ha hb hv (omega arith) av vb in
    let c = found.2 in (
      found.0,
      omega (arith, found.1),
      record {
        within = c.within;
        from = c.from;
        from_clear = c.from_clear;
        to = c.to;
        to_clear = c.to_clear;
        least =
            omega (arith, c.least);
      },
    ) in
    elim (lower_or_none time rank a w (rank w) n) [
      | inl lower ↦
          let detour = metric.triangle lower.0 w b lower.1 hw hb in
          again lower.0 lower.1 lower.2 (omega (arith, lower.3)) (finite lower.0 b lower.1 hb (omega (arith, lower.3, detour))) (omega (arith, lower.3, detour))
      | inr from_clear ↦ elim (lower_or_none time rank w b (rank w) n) [
        | inl lower ↦
            let detour = metric.triangle a w lower.0 ha hw lower.1 in
            again lower.0 lower.1 lower.2 (finite a lower.0 ha lower.1 (omega (arith, lower.3, detour))) (omega (arith, lower.3))
            (omega (arith, lower.3, detour))
        | inr to_clear ↦ (w, omega arith, record { within = hw; from = from; from_clear = from_clear; to = to; to_clear = to_clear; least = omega arith })
      ]
    ]
