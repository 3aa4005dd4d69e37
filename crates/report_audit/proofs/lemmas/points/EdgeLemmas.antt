-- A batch has one graph of each kind.
use Rattle.std.proofs.Common.{◌≡◌, ℕ, List, Contains, refl, arith}
use Rattle.std.proofs.lemmas.List.Elements.{All-contains}
use Rattle.stop_orders.specs.declared.task.settled.Settled.{Settled}
use Rattle.stop_orders.specs.PairList.{IsBefore}
use Rattle.stop_orders.specs.task.Settled.{IsRrEdge}
use Rattle.stop_orders.specs.lemmas.task.Named.{IsRvEdge}
use Rattle.trip_graph.specs.declared.pairs.rv_edge.RvEdge.{RvEdge}
use Rattle.trip_graph.specs.pairs.RvGraph.{IsRvGraph}
use Rattle.trip_graph.specs.lemmas.pairs.Edge.{no_edge, pair_of}
use Rattle.trip_graph.specs.pairs.RrGraph.{IsRrGraph}
use Rattle.report_audit.proofs.lemmas.points.SortedLemmas.{IsStrict, in_order, same_members}

pairs_strict : IsStrict IsBefore
pairs_strict = record {
  irreflexive = λ p h. omega (arith, h.1 refl);
  transitive = λ p q r h k. (
    omega (arith, h.0, k.0),
    λ e.
        let first : p.0 ≡ q.0 = omega (arith, h.0, k.0, e) in
        let second : q.0 ≡ r.0 = omega (arith, h.0, k.0, e) in
        omega (arith, h.1 first, k.1 second),
  );
}

abbrev EdgeBefore : RvEdge → RvEdge → Type 0
EdgeBefore e f = IsBefore (pair_of e) (pair_of f)

edges_strict : IsStrict EdgeBefore
edges_strict = record {
  irreflexive = λ e h. pairs_strict.irreflexive (pair_of e) h;
  transitive = λ e f g h k. pairs_strict.transitive (pair_of e) (pair_of f) (pair_of g) h k;
}

module _ (tau : ℕ → ℕ → ℕ) (settled : Settled) where
  edge_in : (xs ys : List RvEdge) → IsRvGraph tau settled xs → IsRvGraph tau settled ys → (e : RvEdge) → Contains xs e → Contains ys e
  edge_in xs ys a b e found = b.whole e.vehicle e.rider (All-contains (λ (x : RvEdge). IsRvEdge tau settled x.vehicle x.rider) xs e a.right found)

  pub one_rv_graph : (xs ys : List RvEdge) → IsRvGraph tau settled xs → IsRvGraph tau settled ys → xs ≡ ys
  one_rv_graph xs ys a b =
      same_members EdgeBefore edges_strict no_edge xs ys
      (in_order EdgeBefore edges_strict no_edge xs a.rising) (in_order EdgeBefore edges_strict no_edge ys b.rising) (edge_in xs ys a b) (edge_in ys xs b a)

  pair_in : (xs ys : List (ℕ × ℕ)) → IsRrGraph tau settled xs → IsRrGraph tau settled ys → (p : ℕ × ℕ) → Contains xs p → Contains ys p
  pair_in xs ys a b p found = b.whole p.0 p.1 (All-contains (λ (q : ℕ × ℕ). IsRrEdge tau settled q.0 q.1) xs p a.right found)

  pub one_rr_graph : (xs ys : List (ℕ × ℕ)) → IsRrGraph tau settled xs → IsRrGraph tau settled ys → xs ≡ ys
  one_rr_graph xs ys a b =
      same_members IsBefore pairs_strict (0, 0) xs ys
      (in_order IsBefore pairs_strict (0, 0) xs a.order.rising) (in_order IsBefore pairs_strict (0, 0) ys b.order.rising) (pair_in xs ys a b)
      (pair_in ys xs b a)
