-- The calls of a lane in a log that grows by one entry.
use Rattle.std.proofs.Common.{rules, ◌≡◌, ◌≢◌, ℕ, suc, ◌+◌, ◌<◌, ◌==◌, cond, List, [], ◌∷◌, ◌++◌, length, filter, ap, ◌∙◌, arith, eq-eqb, ne_eqb, append-nil}
use Rattle.seat_lock.proofs.Common.{enumerate_from, LoggedCall, Claim, calls_of, Claimed, Laned, lane_weight}
use Rattle.std.proofs.lemmas.List.Elements.{filter-append}
use Rattle.seat_lock.proofs.Totals.{at, at-same}

module _ {C R : Type 0} where
  pub enumerate-push : (n : ℕ) (es : List (LoggedCall C R)) (e : LoggedCall C R) → enumerate_from n (es ++ e ∷ []) ≡ enumerate_from n es ++ (n + length es, e) ∷
      []
  enumerate-push n [] e = ap (λ (k : ℕ). (k, e) ∷ []) (let z : n ≡ n + 0 = omega arith in z)
  enumerate-push n (x ∷ xs) e = ap (λ l. (n, x) ∷ l) (enumerate-push (n + 1) xs e ∙ ap (λ (k : ℕ). enumerate_from (n + 1) xs ++ (k, e) ∷ [])
      (let z : n + 1 + length xs ≡ n + suc (length xs) = omega arith in z))

  abbrev mine : ℕ → ℕ × LoggedCall C R → Rattle.std.proofs.Common.Bool
  mine lane p = p.1.lane == lane

  pub calls-push : (lane : ℕ) (es : List (LoggedCall C R)) (e : LoggedCall C R) → calls_of lane (es ++ e ∷ []) ≡ calls_of lane es ++ filter (mine lane)
      ((length es, e) ∷ [])
  calls-push lane es e = search (rules, enumerate-push, filter-append)

  -- a call of the lane is one more, at the end of the log
  pub calls-own : (lane : ℕ) (es : List (LoggedCall C R)) (e : LoggedCall C R) → e.lane ≡ lane →
      calls_of lane (es ++ e ∷ []) ≡ calls_of lane es ++ (length es, e) ∷ []
  calls-own lane es e is = calls-push lane es e ∙ ap (λ b. calls_of lane es ++ cond b ((length es, e) ∷ []) []) (eq-eqb e.lane lane is)

  -- a call of another lane changes nothing
  pub calls-other : (lane : ℕ) (es : List (LoggedCall C R)) (e : LoggedCall C R) → e.lane ≢ lane → calls_of lane (es ++ e ∷ []) ≡ calls_of lane es
  calls-other lane es e ne = calls-push lane es e ∙ ap (λ b. calls_of lane es ++ cond b ((length es, e) ∷ []) []) (ne_eqb e.lane lane ne) ∙
      append-nil (calls_of lane es)

  -- claims of other lanes stay as they are
  pub Claimed-push : (lane : ℕ) (es : List (LoggedCall C R)) (e : LoggedCall C R) (claims : List (Claim C R)) → e.lane ≡ lane →
      lane_weight (at lane) claims ≡ 0 → Claimed es claims → Claimed (es ++ e ∷ []) claims
  Claimed-push lane es e [] is none_here k = tt
  Claimed-push lane es e (c ∷ cs) is none_here k = search (rules, calls-other, at-same, (Claimed-push lane es e cs is))

  pub Claimed-append : (es : List (LoggedCall C R)) (a b : List (Claim C R)) → Claimed es a → Claimed es b → Claimed es (a ++ b)
  Claimed-append es [] b p q = q
  Claimed-append es (c ∷ cs) b p q = (p.0, Claimed-append es cs b p.1 q)

  pub Laned-push : (lanes : ℕ) (es : List (LoggedCall C R)) (e : LoggedCall C R) → Laned lanes es → e.lane < lanes → Laned lanes (es ++ e ∷ [])
  Laned-push lanes [] e k lt = (lt, tt)
  Laned-push lanes (x ∷ xs) e k lt = (k.0, Laned-push lanes xs e k.1 lt)
