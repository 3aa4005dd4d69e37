use Rattle.std.proofs.Common.{◌++◌, ap, codes, ◌∙◌}
use Rattle.dispatch_report.specs.Words.{numbered}
use Rattle.ridepool.specs.Stand.{or_none}
use Rattle.ridepool.proofs.stand.stand_text.Goals as goal

pub returns : goal.returns
returns c =
    let s = c.args.stand.now in
    c.in_ok-put_or_none-2.ensures ∙ ap (λ t. t ++ (codes " open=" ++ or_none s.open)) (c.in_ok-put_or_none.ensures
    ∙ ap (λ t. t ++ (codes " round=" ++ or_none s.round)) (c.in_ok-put_count-2.ensures
    ∙ ap (λ t. t ++ numbered (codes " bytes=") s.bytes) (c.in_ok-put_count.ensures
    ∙ ap (λ t. t ++ numbered (codes "resumed entries=") s.entries) c.new-text.ensures.items)))
