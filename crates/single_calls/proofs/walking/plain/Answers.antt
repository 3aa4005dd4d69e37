use Rattle.std.proofs.Common.{refl}
use Rattle.single_calls.proofs.walking.plain.Goals as goal

pub times_by_repeated_relaxation-requires-clause-known : goal.times_by_repeated_relaxation-requires-clause-known
times_by_repeated_relaxation-requires-clause-known c = c.if-are_known.ensures.0 refl
