use Rattle.std.proofs.Common.{◌≡◌, [], ◌∙◌, replicate, refl, arith}
use Rattle.std.proofs.lemmas.List.{replicate_more}
use Rattle.input_rows.proofs.script.round.Round.new.Goals as goal

pub loop-preserved : goal.loop-preserved
loop-preserved c = let e = c.push_reserved.ensures in let i = c.loop.invariant in record {
  items = rw (e.items, c.new.ensures.items, i.items) (replicate_more c.loop.counter []);
  len = omega (arith, e.len, i.len);
  room = e.capacity ∙ i.room;
}

pub returns-clause-empty : goal.returns-clause-empty
returns-clause-empty c =
    let ended : c.loop.counter ≡ 16 = omega arith in
    let lanes : c.loop.lanes.items ≡ replicate 16 [] = rw ended at c.loop.invariant.items in
    rw lanes refl
