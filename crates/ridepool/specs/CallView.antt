-- What is seen of a call: its words, its sources and its sink, at entry and at exit.
use Rattle.std.specs.Prelude.{ℕ, List}
use Rattle.pool_io.specs.Views.{Change, IsUntouched, SinkView, SourceView}
use Rattle.pool_base.specs.declared.which.Which.{Which}
use Rattle.pool_base.specs.declared.which.Which.TheVariants.{Network, Fleet, Script, Report}
use Rattle.request_book.specs.notices.Told.{NotifierView}

-- the sources of the inputs
pub record Sources : Type 0 where
  pub network : Change SourceView
  pub fleet : Change SourceView
  pub script : Change SourceView
  pub report : Change SourceView

-- the source of an input
abbrev pub source_at : Sources → Which → Change SourceView
source_at s Network = s.network
source_at s Fleet = s.fleet
source_at s Script = s.script
source_at s Report = s.report

-- a call: its words, its sources, the sink of its report, and the notifiers of its riders
pub record CallView : Type 0 where
  pub words : List (List ℕ)
  pub sources : Sources
  pub out : Change SinkView
  pub notifiers : Change (List NotifierView)

-- nothing is written and nobody was told anything
pub record IsSilent (seen : CallView) : Type 0 where
  pub out : IsUntouched seen.out
  pub notifiers : IsUntouched seen.notifiers
