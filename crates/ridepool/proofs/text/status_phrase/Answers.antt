use Rattle.std.proofs.Common.{◌≡◌, ◌++◌, ℕ, codes, refl}
use Rattle.dispatch_report.specs.Words.{numbered}
use Rattle.pool_base.specs.Which.{file_name}
use Rattle.pool_base.specs.declared.which.Which.{Which}
use Rattle.pool_base.specs.declared.which.Which.TheVariants as file
use Rattle.ridepool.specs.Text.{longer_than}
use Rattle.ridepool.proofs.text.status_phrase.Goals as goal

too_long : (w : Which) (most : ℕ) → file_name w ++ (numbered (codes ": longer than ") most ++ codes " bytes") ≡ file_name w ++ codes ": " ++ longer_than most
unfolding longer_than numbered
too_long file.Network most = refl
too_long file.Fleet most = refl
too_long file.Script most = refl
too_long file.Report most = refl

pub returns-in-TooLong : goal.returns-in-TooLong
returns-in-TooLong c = rw (c.in-TooLong.is, c.as_bytes.ensures.value, c.name.ensures, c.most_bytes.ensures) (too_long c.in-TooLong.which _)

pub returns-in-TooLate : goal.returns-in-TooLate
returns-in-TooLate c = rw (c.in-TooLate.is, c.from.ensures) refl
