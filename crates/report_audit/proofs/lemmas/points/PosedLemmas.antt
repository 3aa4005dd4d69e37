-- A batch poses one problem.
use Rattle.std.proofs.Common.{◌≡◌, ◌↔◌, ℕ, List, map, refl, subst, rules}
use Rattle.report_audit.proofs.Common.{
  Batch,
  AnswersWith,
  HasGraphsWith,
  IsGoodOutcome,
  IsOutcomeWith,
  IsGoodPlan,
  Holds,
  Posed,
  Point,
  IsRrGraph,
  IsRvGraph,
  RvEdge,
  Graph,
  travel_time,
  IsSettled,
  Answer,
  Planned,
  Settings,
  Roads,
  index_in,
  Settled,
  AreTravelTimes,
  IsTripGraphOf,
  IsVerdictOf,
  Meets,
  Verdict,
  Good,
  Fails,
}
use Rattle.report_audit.proofs.lemmas.points.GraphLemmas.{one_trip_graph}
use Rattle.report_audit.proofs.lemmas.points.SortedLemmas.{same_rising}
use Rattle.request_book.specs.Points.{ArePoints}
use Rattle.report_audit.proofs.lemmas.points.EdgeLemmas.{one_rr_graph, one_rv_graph}
use Rattle.report_audit.proofs.lemmas.points.SettledLemmas.{one_settling}
use Rattle.report_audit.proofs.lemmas.points.TableLemmas.{one_table}
use Rattle.pool_base.specs.declared.times.Times.{Times}
use Rattle.request_book.specs.declared.values.outcome.Outcome.{Outcome}
use Rattle.report_audit.proofs.lemmas.points.VerdictLemmas.{verdict_of_same}
use Rattle.dispatch_engine.specs.declared.outcome.point.Point.TheVariants as point
use Rattle.request_book.specs.declared.values.outcome.Answer.TheVariants as answer

-- what holds with some graphs of these limits holds with others
module _ (settings : Settings) (points : List ℕ) (tau : ℕ → ℕ → ℕ) (settled : Settled) (graph : Graph) (edges : List RvEdge) (pairs : List (ℕ × ℕ))
    (exact : IsTripGraphOf settings tau settled graph) (edges_exact : IsRvGraph tau settled edges) (pairs_exact : IsRrGraph tau settled pairs)
    (P : Posed → Type 0) where
  pub with_graphs : P (record { points = points; tau = tau; settled = settled; graph = graph; edges = edges; pairs = pairs }) →
      HasGraphsWith settings points tau settled P
  with_graphs holds = record { graph = graph; edges = edges; pairs = pairs; exact = exact; edges_exact = edges_exact; pairs_exact = pairs_exact; holds = holds }

  pub of_graphs : HasGraphsWith settings points tau settled P →
      P (record { points = points; tau = tau; settled = settled; graph = graph; edges = edges; pairs = pairs })
  of_graphs with =
      let same_graph : with.graph ≡ graph = one_trip_graph settings tau settled with.graph graph with.exact exact in
      let same_edges : with.edges ≡ edges = one_rv_graph tau settled with.edges edges with.edges_exact edges_exact in
      let same_pairs : with.pairs ≡ pairs = one_rr_graph tau settled with.pairs pairs with.pairs_exact pairs_exact in
      subst P (λ i. record { points = points; tau = tau; settled = settled; graph = same_graph i; edges = same_edges i; pairs = same_pairs i }) with.holds

module _ (settings : Settings) (points : List ℕ) (tau : ℕ → ℕ → ℕ) (settled : Settled) where
  -- an answer is good where all points hold of it
  good_answer : (a : Answer) → ((q : Point) → AnswersWith settings points tau settled (Holds settings q) a) →
      AnswersWith settings points tau settled (IsGoodPlan settings) a
  good_answer answer.Overflow all = all point.Answer
  good_answer (answer.Planned planned) all =
      let first = all point.Answer in
      with_graphs settings points tau settled first.graph first.edges first.pairs first.exact first.edges_exact first.pairs_exact (IsGoodPlan settings planned)
      (λ q. of_graphs settings points tau settled first.graph first.edges first.pairs first.exact first.edges_exact first.pairs_exact (Holds settings q planned)
      (all q))

  answer_good : (a : Answer) → AnswersWith settings points tau settled (IsGoodPlan settings) a → (q : Point) →
      AnswersWith settings points tau settled (Holds settings q) a
  answer_good answer.Overflow more q = more
  answer_good (answer.Planned planned) good q = search rules

module _ (settings : Settings) (roads : Roads) (batch : Batch) (outcome : Outcome) where
  one_points : (points others : List ℕ) → ArePoints batch points → ArePoints batch others → points ≡ others
  one_points points others are also = same_rising points others are.rise also.rise
      (λ node found. (also.named node).1 ((are.named node).0 found)) (λ node found. (are.named node).1 ((also.named node).0 found))

  -- limits follow in one way, so what is answered with some is answered with others
  module _ (points : List ℕ) (times : Times) (settled : Settled) (nodes : ArePoints batch points)
      (table : AreTravelTimes roads.arcs (map (index_in roads.nodes) points) times)
      (limits : IsSettled settings points (travel_time times) batch settled) (expired : outcome.expired ≡ batch.expired) where
    with_limits : (P : Planned → Posed → Type 0) → AnswersWith settings points (travel_time times) settled P outcome.answer →
        IsOutcomeWith settings roads batch P outcome
    with_limits P answers = record {
      points = points;
      times = times;
      settled = settled;
      nodes = nodes;
      table = table;
      limits = limits;
      expired =
          expired;
      answer = answers;
    }

    of_limits : (P : Planned → Posed → Type 0) → IsOutcomeWith settings roads batch P outcome →
        AnswersWith settings points (travel_time times) settled P outcome.answer
    of_limits P with =
        let same_points : with.points ≡ points = one_points with.points points with.nodes nodes in
        let places : List ℕ = map (index_in roads.nodes) points in
        let with_table : AreTravelTimes roads.arcs places with.times = subst (λ (ps : List ℕ). AreTravelTimes roads.arcs (map (index_in roads.nodes) ps)
        with.times) same_points with.table in
        let same_tau : travel_time with.times ≡ travel_time times = one_table roads.arcs places with.times times with_table.points table.points with_table.cells
        table.cells in
        let with_limits' : IsSettled settings points (travel_time times) batch with.settled =
        subst (λ (tau : ℕ → ℕ → ℕ). IsSettled settings points tau batch with.settled) same_tau
        (subst (λ (ps : List ℕ). IsSettled settings ps (travel_time with.times) batch with.settled) same_points with.limits) in
        let same_settled : with.settled ≡ settled = one_settling settings points nodes.rise (travel_time times) batch with.settled settled with_limits'
        limits in
        subst (λ (s : Settled). AnswersWith settings points (travel_time times) s P outcome.answer) same_settled
        (subst (λ (tau : ℕ → ℕ → ℕ). AnswersWith settings points tau with.settled P outcome.answer) same_tau
        (subst (λ (ps : List ℕ). AnswersWith settings ps (travel_time with.times) with.settled P outcome.answer) same_points with.answer))

    pub meets_of : (v : Verdict) → IsVerdictOf (λ q. AnswersWith settings points (travel_time times) settled (Holds settings q) outcome.answer) v →
        IsVerdictOf (Meets settings roads batch outcome) v
    meets_of v is = search (rules, verdict_of_same, with_limits, of_limits)

  -- an outcome is good where all points hold of it
  all_good : ((q : Point) → Meets settings roads batch outcome q) → IsGoodOutcome settings roads batch outcome
  all_good all =
      let first = all point.Answer in
      with_limits first.points first.times first.settled first.nodes first.table first.limits first.expired (IsGoodPlan settings)
      (good_answer settings first.points (travel_time first.times) first.settled outcome.answer
      (λ q. of_limits first.points first.times first.settled first.nodes first.table first.limits first.expired (Holds settings q) (all q)))

  pub good_meets : IsGoodOutcome settings roads batch outcome → (q : Point) → Meets settings roads batch outcome q
  good_meets good q = search (rules, with_limits, answer_good)

  -- a verdict of the points is good exactly where the outcome is
  pub verdict_good : (v : Verdict) → IsVerdictOf (Meets settings roads batch outcome) v → (v ≡ Good) ↔ IsGoodOutcome settings roads batch outcome
  verdict_good Good is = (λ e. all_good is, λ good. refl)
  verdict_good (Fails p) is = (λ e. absurd (cc), λ good. absurd (is.1 (good_meets good p)))
