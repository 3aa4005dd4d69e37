use Rattle.report_past.proofs.CutLemmas.{walk_none, walk_on, walk_whole, walked_out}
use Rattle.report_past.proofs.whole.whole_size.Goals as goal

pub loop-line-init : goal.loop-line-init
loop-line-init c = walk_none c.args.text.now

pub loop-line-preserved-then-not-inside : goal.loop-line-preserved-then-not-inside
loop-line-preserved-then-not-inside c =
    walk_whole c.args.text.now c.loop-line.rest.now c.in-Some.line.now c.in-Some.after.now c.loop-line.inside c.after_line-inside.result c.loop-line.kept
    c.loop-line.invariant
    c.in-Some.ensures.0 c.in-Some.ensures.1 c.after_line-inside.ensures c.if-not-inside.true

pub loop-line-preserved : goal.loop-line-preserved
loop-line-preserved c =
    walk_on c.args.text.now c.loop-line.rest.now c.in-Some.line.now c.in-Some.after.now c.loop-line.inside c.after_line-inside.result c.loop-line.kept
    c.loop-line.invariant
    c.in-Some.ensures.0 c.in-Some.ensures.1 c.after_line-inside.ensures c.if-not-inside.false

pub returns-clause-longest : goal.returns-clause-longest
returns-clause-longest c m most is = walked_out c.args.text.now c.loop-line.rest.now c.loop-line.inside c.loop-line.kept m c.loop-line.invariant
    c.in_default.ensures most is
