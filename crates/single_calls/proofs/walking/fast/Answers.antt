use Rattle.std.proofs.Common.{refl}
use Rattle.single_calls.proofs.walking.fast.Goals as goal

pub times_between-requires-clause-known : goal.times_between-requires-clause-known
times_between-requires-clause-known g c κs within = c.if-are_known.ensures.0 refl
