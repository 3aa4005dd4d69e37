use Rattle.std.proofs.Common.{◌≡◌, length, refl, ◌∙◌, arith}
use Rattle.travel_times.proofs.Common.{same_lists, get_or_default}
use Rattle.travel_times.proofs.labels.Merging.{no_hub}
use Rattle.travel_times.proofs.labels.checked.are_same.Goals as goal

pub returns : goal.returns
returns c =
    let label = c.args.label.now in
    let other = c.args.other.now in
    let ended : length c.args.label.now ≡ c.loop-place.place = omega (arith, c.loop-place-test.false, c.loop-place.auto.place-end) in
    let long : length c.args.label.now ≡ length c.args.other.now = omega (arith, c.if-label-other.false) in (
      λ _. same_lists label other long (λ k d h. get_or_default label k d no_hub h ∙ c.loop-place.invariant k (omega (arith, h, ended)) ∙
          get_or_default other k no_hub d (omega (arith, h, long))),
      λ _. refl,
    )
