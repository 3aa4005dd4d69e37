use Rattle.std.specs.Prelude.{ℕ, List, ◌++◌}
use Rattle.dispatch_report.specs.Words.{numbered}
use Rattle.pool_base.specs.Which.{file_name}
use Rattle.ridepool.specs.declared.phrase.Phrase.{Phrase}
use Rattle.ridepool.specs.declared.phrase.Phrase.TheVariants.{Words, At, Within, Both, Name}

-- what a phrase says
abbrev pub phrase_text : Phrase → List ℕ
phrase_text (Words words) = words.now
phrase_text (At words n) = numbered words.now n
phrase_text (Within words n end) = numbered words.now n ++ end.now
phrase_text (Both words n more m) = numbered words.now n ++ numbered more.now m
phrase_text (Name words which) = words.now ++ file_name which
