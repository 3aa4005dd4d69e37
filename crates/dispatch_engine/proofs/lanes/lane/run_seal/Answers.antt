use Rattle.std.proofs.Common.{◌≡◌, ◌∷◌, [], Some, None, subst, ◌∙◌}
use Rattle.dispatch_engine.proofs.Common.{on_ok_weaker, on_err_weaker, Seal, HasCalled, with_snapshot}
use Rattle.dispatch_engine.proofs.lanes.PassLemmas.{runs-refused, runs-sealed, begun-none, begun-sealed}
use Rattle.dispatch_engine.proofs.lanes.RoundLemmas.{on-err}
use Rattle.dispatch_engine.proofs.lemmas.lanes.RunLemmas.{snapshot-known}
use Rattle.dispatch_engine.proofs.lanes.lane.run_seal.Goals as goal

pub returns-in_default-clause-run : goal.returns-in_default-clause-run
returns-in_default-clause-run g c =
    let r = c.in_ok-snapshot.field-0.receipt in
    let none : c.in_ok-snapshot.field-0.snapshot ≡ None = c.in_default.is in
    runs-refused c.args.solver.now.settings.now c.args.solver.now.network.now c.args.book.now.start.nodes c.args.pass.now c.seal.new.pass c.args.now r.position
    r.reply
    (subst (λ o. HasCalled c.args.book.now.start.nodes c.args.pass.now (Seal c.args.now) r.position (with_snapshot r.reply o) c.seal.new.pass) none
    c.in_ok-snapshot.ensures.call)

pub close_batch-requires-clause-known : goal.close_batch-requires-clause-known
close_batch-requires-clause-known g c κs within =
    let r = c.in_ok-snapshot.field-0.receipt in
    let b = c.in-Some.snapshot in
    let some : c.in_ok-snapshot.field-0.snapshot ≡ Some b = c.in-Some.is in
    let called = subst (λ o. HasCalled c.args.book.now.start.nodes c.args.pass.now (Seal c.args.now) r.position (with_snapshot r.reply o) c.seal.new.pass) some
    c.in_ok-snapshot.ensures.call in
    snapshot-known c.args.book.now.start.nodes c.args.solver.now.network.now.nodes (Seal c.args.now) r.reply b c.requires.nodes called.fits

pub returns : goal.returns
returns g c =
    let settings = c.args.solver.now.settings.now in
    let roads = c.args.solver.now.network.now in
    let r = c.in_ok-snapshot.field-0.receipt in
    let b = c.in-Some.snapshot in
    let nodes = c.args.book.now.start.nodes in
    let some : c.in_ok-snapshot.field-0.snapshot ≡ Some b = c.in-Some.is in
    let called = subst (λ o. HasCalled nodes c.args.pass.now (Seal c.args.now) r.position (with_snapshot r.reply o) c.seal.new.pass) some
    c.in_ok-snapshot.ensures.call in
    record {
      pass = (c.close_batch.ensures.pass.0, c.close_batch.ensures.pass.1 ∙ c.seal.ensures.pass.1);
      run = on_ok_weaker c.close_batch.result
          (λ closed. runs-sealed settings roads nodes c.args.pass.now c.seal.new.pass c.close_batch.new.pass c.args.now r.position r.reply b closed.0
          closed.2.receipt called closed.2.called closed.1)
          c.close_batch.ensures.closed;
      begun = on_err_weaker c.close_batch.result (begun-sealed settings roads nodes c.args.pass.now c.seal.new.pass c.close_batch.new.pass c.args.now r.position
          r.reply b called) c.close_batch.ensures.refused;
    }

pub returns-in_err-snapshot-clause-begun : goal.returns-in_err-snapshot-clause-begun
returns-in_err-snapshot-clause-begun g c =
    on-err c.from_residual.result _
    (begun-none c.args.solver.now.settings.now c.args.solver.now.network.now (Seal c.args.now ∷ []) c.args.pass.now c.seal.new.pass
    c.in_err-snapshot.ensures.refused)

pub returns-in_err-snapshot-clause-pass : goal.returns-in_err-snapshot-clause-pass
returns-in_err-snapshot-clause-pass g c = c.seal.ensures.pass

pub returns-in_default-clause-pass : goal.returns-in_default-clause-pass
returns-in_default-clause-pass g c = c.seal.ensures.pass
