use Rattle.std.proofs.Common.{inr, refl, sym, ◌∙◌}
use Rattle.pool_io.proofs.Common.{Reached, strip_bom}
use Rattle.pool_io.proofs.records.reader_of.Goals as goal

pub returns : goal.returns
unfolding Reached
returns c =
    let from = c.from_reader.ensures in
    let named = c.has_headers.ensures in
    let even = c.flexible.ensures in
    record {
      untrimmed = rw (even, named) at from.trim ∙ c.new.ensures.trim;
      ready = inr (inr (rw (even, named) at from.has_headers, from.headers));
      config = rw (even, named) at from.config ∙ c.new.ensures.config;
      rest = strip_bom c.args.bytes.now;
      left = from.source;
      reached = (sym from.state, refl);
    }
