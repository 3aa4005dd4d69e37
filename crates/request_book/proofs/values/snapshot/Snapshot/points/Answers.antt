use Rattle.std.proofs.Common.{◌≡◌, ◌∙◌, Contains, subst, sym, ap, List, ℕ}
use Rattle.request_book.specs.Points.{named_nodes}
use Rattle.request_book.proofs.values.snapshot.Snapshot.points.Goals as goal

pub returns-clause-points : goal.returns-clause-points
returns-clause-points c =
    let named : c.in_ok-nodes.nodes.items ≡ named_nodes c.args.self.now =
    (rw (c.as_slice.ensures, c.as_slice-2.ensures) at c.in_ok-nodes.ensures.nodes) ∙ ap named_nodes c.self.view_is in
    record {
      rise = c.make_distinct.ensures.rise;
      named = λ node.
          let P : List ℕ → Type 0 = λ xs. Contains xs node in (
            (λ has. subst P named ((c.make_distinct.ensures.same node).0 has)),
            (λ has. (c.make_distinct.ensures.same node).1 (subst P (sym named) has)),
          );
    }
