use Rattle.request_book.proofs.lemmas.LawLemmas.{refused-keeps}
use Rattle.request_book.proofs.laws.refused_commands_change_nothing.Goals as goal

pub returns : goal.returns
returns c = refused-keeps
