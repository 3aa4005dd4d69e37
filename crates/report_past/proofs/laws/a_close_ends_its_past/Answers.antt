use Rattle.std.proofs.Common.{refl, ◌∙◌, arith}
use Rattle.live_dispatch.specs.Live.{rows_rounds}
use Rattle.report_past.proofs.lemmas.CloseLemmas.{good_last, has_some, position_last, state_last, text_last}
use Rattle.report_past.specs.Told.{close_of}
use Rattle.request_book.specs.Book.{opening}
use Rattle.report_past.proofs.laws.a_close_ends_its_past.Goals as goal

pub returns-clause-good : goal.returns-clause-good
returns-clause-good c settings roads vehicles rows made batch outcome told sealed good is =
    good_last settings roads (opening vehicles) 0 (rows_rounds rows) made (close_of batch outcome) told good (batch, sealed, is)

pub returns-clause-text : goal.returns-clause-text
returns-clause-text c settings roads vehicles rows made batch outcome told sealed =
    text_last settings roads settings.proof (opening vehicles) 0 (rows_rounds rows) made (close_of batch outcome) (omega arith)
    (has_some settings roads (opening vehicles) made batch refl sealed) told

pub returns-clause-state : goal.returns-clause-state
returns-clause-state c settings roads vehicles made batch outcome sealed =
    state_last settings roads (opening vehicles) made (close_of batch outcome) (has_some settings roads (opening vehicles) made batch refl sealed)

pub returns-clause-position : goal.returns-clause-position
returns-clause-position c settings roads vehicles made batch outcome sealed =
    position_last 0 made (close_of batch outcome) (has_some settings roads (opening vehicles) made batch refl sealed) ∙ omega arith
