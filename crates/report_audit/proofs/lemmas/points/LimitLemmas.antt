-- The lesser of the costs of the held and the greedy plan, and plans that are no better.
use Rattle.std.proofs.Common.{◌≡◌, ℕ, ◌≤◌, List, Option, ap, subst, inl, inr, arith}
use Rattle.report_audit.proofs.Common.{Graph, IsGoodGraph, IsLawful, cost_of, IsLimit}
use Rattle.plan_rules.specs.Greedy.{IsGreedy}
use Rattle.assignment_search.proofs.lemmas.UniqueLemmas.{greedy_unique}

module _ (g : Graph) (good : IsGoodGraph g) (greedy : List (Option ℕ)) (is : IsGreedy g greedy) where
  -- there is no lawful greedy plan
  pub limit_held : (IsLawful g greedy → ⊥) → (limit : ℕ) → limit ≡ cost_of g g.held → IsLimit g limit
  limit_held not_lawful limit e = record {
    held = omega (arith, e);
    greedy = λ chosen also lawful. absurd (not_lawful (subst (IsLawful g) (greedy_unique g chosen greedy good also is) lawful));
    attained = inl e;
  }

  same_cost : (chosen : List (Option ℕ)) → IsGreedy g chosen → cost_of g chosen ≡ cost_of g greedy
  same_cost chosen also = ap (cost_of g) (greedy_unique g chosen greedy good also is)

  -- the greedy plan is lawful and costs less
  pub limit_greedy : IsLawful g greedy → (limit : ℕ) → limit ≡ cost_of g greedy → limit ≤ cost_of g g.held → IsLimit g limit
  limit_greedy lawful limit e low = record {
    held = low;
    greedy = λ chosen also of. let same = same_cost chosen also in omega (arith, same, e);
    attained = inr (greedy, is, lawful, e);
  }

  -- the greedy plan is lawful and costs no less
  pub limit_dear : (limit : ℕ) → limit ≡ cost_of g g.held → limit ≤ cost_of g greedy → IsLimit g limit
  limit_dear limit e low = record {
    held = omega (arith, e);
    greedy = λ chosen also of. let same = same_cost chosen also in omega (arith, same, low);
    attained = inl e;
  }
