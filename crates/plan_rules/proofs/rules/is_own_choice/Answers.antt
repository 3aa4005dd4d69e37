use Rattle.std.proofs.Common.{ℕ, Option, MatchOption, eq-eqb, eqb-true, subst, sym}
use Rattle.plan_rules.proofs.Common.{HasNoRow, IsRowOf, IsStartOf}
use Rattle.plan_rules.proofs.lemmas.GraphLemmas.{no_row_between, starts_meet}
use Rattle.plan_rules.proofs.rules.is_own_choice.Goals as goal

pub returns-in-None : goal.returns-in-None
returns-in-None c =
    let g = c.args.graph.now in
    let v = c.args.vehicle in
    let a = c.first_row-first.result in
    let b = c.first_row-end.result in
    let own : Option ℕ → Type 0 = λ o. MatchOption o (HasNoRow g v) (IsRowOf g v) in (
      λ e. subst own (sym c.in-None.is) (no_row_between g v a c.first_row-first.ensures (subst (IsStartOf g _) (sym (eqb-true a b e)) c.first_row-end.ensures)),
      λ none. eq-eqb a b (starts_meet g v a b c.first_row-first.ensures c.first_row-end.ensures (subst own c.in-None.is none)),
    )
