use Rattle.std.proofs.Common.{◌≡◌, ◌∷◌, ◌++◌, [], List, All, length, ap, subst, ◌∙◌, arith}
use Rattle.std.proofs.lemmas.List.{length_push}
use Rattle.seat_lock.specs.Values.{AreAllPasses, IsNew}
use Rattle.live_dispatch.proofs.open.two_of.Goals as goal

-- a list of two, taken from its end
two : {X : Type 0} (all more none : List X) (first second : X) → all ≡ more ++ second ∷ [] → more ≡ none ++ first ∷ [] → length all ≡ 2 →
    all ≡ first ∷ second ∷ []
two all more [] first second last before size = last ∙ ap (λ l. l ++ second ∷ []) before
two all more (x ∷ none) first second last before size =
    absurd (omega (arith, ap length last ∙ length_push more second, ap length before ∙ length_push (x ∷ none) first, size))

pub returns-clause-first : goal.returns-clause-first
returns-clause-first g c =
    let both = two c.args.passes.items c.pop.new.self.items c.pop-2.new.self.items c.in-Some-pop.first c.in-Some.second c.in-Some.ensures.items
    c.in-Some-pop.ensures.items (c.requires.passes.len ∙ c.requires.lanes) in
    let all = subst (AreAllPasses c.args.lock.now) both c.requires.passes in (
      all.own 0 c.in-Some-pop.first (omega arith),
      all.lanes 0 c.in-Some-pop.first (omega arith),
      (subst (All IsNew) both c.requires.fresh 0 c.in-Some-pop.first (omega arith)).0,
    )

pub returns-clause-second : goal.returns-clause-second
returns-clause-second g c =
    let both = two c.args.passes.items c.pop.new.self.items c.pop-2.new.self.items c.in-Some-pop.first c.in-Some.second c.in-Some.ensures.items
    c.in-Some-pop.ensures.items (c.requires.passes.len ∙ c.requires.lanes) in
    let all = subst (AreAllPasses c.args.lock.now) both c.requires.passes in (
      all.own 1 c.in-Some.second (omega arith),
      all.lanes 1 c.in-Some.second (omega arith),
      (subst (All IsNew) both c.requires.fresh 1 c.in-Some.second (omega arith)).0,
    )
