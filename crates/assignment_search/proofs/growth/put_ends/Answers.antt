use Rattle.std.proofs.Common.{◌<◌, ◌+◌, List, length, ℤ, pos, ap, ◌∙◌, arith}
use Rattle.assignment_search.proofs.Common.{Node, Branch}
use Rattle.std.specs.List.{insert}
use Rattle.assignment_search.proofs.AnswerLemmas.{small_back}
use Rattle.assignment_search.proofs.EditLemmas.{edit_replace, edit_keep}
use Rattle.assignment_search.proofs.growth.put_ends.Goals as goal

pub returns-clause-nodes : goal.returns-clause-nodes
returns-clause-nodes c =
    let p = c.args.place in
    let nodes : List Node = c.args.nodes.now.items in
    let branch : Node = Branch c.args.ends.vehicle c.args.ends.row in
    let first : Node = c.args.ends.first.node in
    let second : Node = c.args.ends.second.node in
    c.in_ok-insert-3.ensures.items
    ∙ ap (λ (xs : List Node). insert xs (p + 2) second) (c.in_ok-insert-2.ensures.items
    ∙ ap (λ (xs : List Node). insert xs (p + 1) first) (c.in_ok-insert.ensures.items
    ∙ ap (λ (xs : List Node). insert xs p branch) c.remove.ensures.items))
    ∙ edit_replace nodes p branch first second c.requires.place

pub returns-clause-values : goal.returns-clause-values
returns-clause-values c =
    let p = c.args.place in
    let values : List ℤ = c.args.values.now.items in
    let a : ℤ = c.args.ends.first.value in
    let b : ℤ = c.args.ends.second.value in
    let low : p < length values = omega (arith, c.requires.place, c.requires.values) in
    c.in_ok-insert-5.ensures.items
    ∙ ap (λ (z : ℤ). insert c.insert-4.new.self.items (p + 2) z) (small_back b c.args.ends.second.small)
    ∙ ap (λ (xs : List ℤ). insert xs (p + 2) b) (c.in_ok-insert-4.ensures.items ∙ ap (λ (z : ℤ). insert values (p + 1) z)
    (small_back a c.args.ends.first.small))
    ∙ edit_keep values p a b (pos 0) low
