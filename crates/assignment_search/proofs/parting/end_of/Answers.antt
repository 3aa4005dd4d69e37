use Rattle.std.proofs.Common.{Bool, false, List, get_or, ap, ◌∙◌}
use Rattle.assignment_search.proofs.Common.{Usable, usable_of, standing_of, Agree, IsNewEnd}
use Rattle.assignment_search.specs.declared.child.End.{End}
use Rattle.assignment_search.proofs.AnswerLemmas.{if_ok_map, new_end_agrees}
use Rattle.assignment_search.proofs.parting.end_of.Goals as goal

pub returns : goal.returns
returns c =
    let g = c.args.parent.now.graph.now in
    let u : Usable = (standing_of g c.args.path.now).usable in
    let w : Usable = usable_of c.deref.result.now in
    let parent = c.args.parent.now.multipliers.now in
    let agree : Agree g w u = λ k l. ap (λ (xs : List Bool). get_or xs k false) c.deref.ensures.value ∙ c.in_ok-allowed.ensures.allowed k l in
    if_ok_map (λ (end : End). IsNewEnd g w parent end.node end.value) (λ (end : End). IsNewEnd g u parent end.node end.value)
    (λ end. new_end_agrees g w u parent end.node end.value agree) c.new_end.result c.new_end.ensures
