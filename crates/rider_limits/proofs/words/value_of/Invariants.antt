use Rattle.std.proofs.Common.{◌≡◌, drop, map}
use Rattle.std.specs.String.{string_bytes}
use Rattle.rider_limits.specs.Words.{text_given}
use Rattle.rider_limits.proofs.words.value_of.Given as goal

abbrev pub invariant-loop-word : goal.invariant-loop-word
invariant-loop-word l =
    text_given l.key (map string_bytes (drop l.word-index l.words)) ≡ text_given l.key (map string_bytes l.words)
