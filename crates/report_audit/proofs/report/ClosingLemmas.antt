-- The close of a batch, taken into a book.
use Rattle.std.proofs.Common.{◌≡◌, ℕ, ◌<◌, ◌^◌, List, Some, eqb, get_or, sym, subst, rules}
use Rattle.report_audit.proofs.Common.{
  Batch,
  BeginsWithGood,
  BookView,
  IsApplied,
  next_position,
  Close,
  Outcome,
  Reply,
  Settings,
  Roads,
  TakesClose,
  close_line,
  IsBookOf,
}
use Rattle.std.specs.List.{All, Contains}
use Rattle.std.proofs.lemmas.Bool.{eqb-true}
use Rattle.std.proofs.lemmas.Map.Views.{Contains-from_any}
use Rattle.request_book.specs.Points.{named_nodes}
use Rattle.request_book.specs.Consistent.{IsNode}
use Rattle.report_audit.proofs.report.JournalLemmas.{close-is}

-- the network has the nodes of the batch that is sealed
pub batch_known : (settings : Settings) (roads : Roads) (b : BookView) (batch : Batch) → IsBookOf settings roads b → b.state.sealed ≡ Some batch →
    All (λ node. Contains roads.nodes node) (named_nodes batch)
batch_known settings roads b batch of sealed = λ k d within.
    contained (get_or (named_nodes batch) k d) (subst (λ (ns : List ℕ). IsNode ns (get_or (named_nodes batch) k d)) of.nodes
    (of.kept.named.sealed batch sealed k d within))
  where
    contained : (node : ℕ) → IsNode roads.nodes node → Contains roads.nodes node
    contained node found = Contains-from_any {eq = λ q n. eqb n q} (λ x y same. sym (eqb-true y x same)) node roads.nodes found

-- the close that was taken, by its batch and with its reply
pub takes_close : (settings : Settings) (roads : Roads) (old new : BookView) (batch : Batch) (lane n position : ℕ) (line after rest : List ℕ)
    (outcome : Outcome) (reply : Reply)
    → n ≡ batch.number → n < 2 ^ 64 → old.state.sealed ≡ Some batch → position ≡ next_position old.first old.entries → line ≡ close_line position lane n
    → BeginsWithGood settings roads batch after outcome rest → IsApplied old lane (Close n outcome) reply new →
    TakesClose settings roads old batch lane line after rest new
takes_close settings roads old new batch lane n position line after rest outcome reply number low sealed at is good applied =
    search (rules, close-is, close_line)
