-- Points, asked one after the other.
use Rattle.std.proofs.Common.{◌≡◌, ℕ, zero, suc, ◌+◌, ◌<◌, refl, sym, ap, ◌∙◌, arith, rules}
use Rattle.report_audit.proofs.Common.{point_place, IsVerdictOf, Point, Verdict, Good, Fails}
use Rattle.dispatch_engine.specs.declared.outcome.point.Point.TheVariants as point

-- all points before this place hold
abbrev pub HoldBelow : (Point → Type 0) → ℕ → Type 0
HoldBelow P k = (q : Point) → point_place q < k → P q

abbrev point_at : ℕ → Point
point_at zero = point.Answer
point_at (suc zero) = point.Graphs
point_at (suc (suc zero)) = point.Late
point_at (suc (suc (suc zero))) = point.Trips
point_at (suc (suc (suc (suc zero)))) = point.Plan
point_at (suc (suc (suc (suc (suc zero))))) = point.Bound
point_at (suc (suc (suc (suc (suc (suc zero)))))) = point.Tree
point_at (suc (suc (suc (suc (suc (suc (suc zero))))))) = point.Best
point_at (suc (suc (suc (suc (suc (suc (suc (suc k)))))))) = point.Moves

back : (q : Point) → point_at (point_place q) ≡ q
back point.Answer = refl
back _ = refl

-- points of one place are the same
pub same_place : (p q : Point) → point_place p ≡ point_place q → p ≡ q
same_place p q at = sym (back p) ∙ ap point_at at ∙ back q

pub last_place : (q : Point) → point_place q < 9
last_place point.Answer = omega arith
last_place _ = omega arith

module _ (P : Point → Type 0) where
  pub hold_none : HoldBelow P 0
  hold_none q h = absurd (omega arith)

  pub hold_more : (p : Point) → HoldBelow P (point_place p) → P p → HoldBelow P (point_place p + 1)
  hold_more p before holds q h = search rules

  pub hold_all : HoldBelow P 9 → (q : Point) → P q
  hold_all before q = before q (last_place q)

-- a verdict of points is one of points that hold where those do
pub verdict_of_same : (P Q : Point → Type 0) → ((q : Point) → P q → Q q) → ((q : Point) → Q q → P q) → (v : Verdict) → IsVerdictOf P v → IsVerdictOf Q v
verdict_of_same P Q there back' Good is = λ q. there q (is q)
verdict_of_same P Q there back' (Fails p) is = (λ q h. there q (is.0 q h), λ holds. is.1 (back' p holds))
