use Rattle.std.proofs.Common.{arith}
use Rattle.std.specs.BinaryHeap.{heap_items}
use Rattle.assignment_search.proofs.growth.open_ends.Goals as goal

pub returns : goal.returns
returns c = record {
  leaf = c.in-Some.field-0;
  rest = heap_items c.pop.new.self;
  top = c.in-Some.ensures.top;
  permutation = c.in-Some.ensures.permutation;
  order = λ is. c.in_ok-put-2.ensures.order (c.in_ok-put.ensures.order (c.in-Some.ensures.heap_order is).0);
  sum = λ f. omega (arith, c.in_ok-put.ensures.sum f, c.in_ok-put-2.ensures.sum f);
}
