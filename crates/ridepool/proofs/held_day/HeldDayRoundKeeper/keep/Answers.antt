use Rattle.std.proofs.Common.{◌∷◌, ◌++◌, [], subst, sym}
use Rattle.ridepool.proofs.Common.{HoldsRound, HoldsRounds}
use Rattle.ridepool.proofs.HeldLemmas.{zip-push}
use Rattle.ridepool.proofs.held_day.HeldDayRoundKeeper.keep.Goals as goal

pub returns : goal.returns
returns c = λ first made took.
    let s = c.args.self.now.settings.now in
    let roads = c.args.self.now.network.now in
    let told = c.args.self.now.told in (
      took.0,
      took.1,
      took.2,
      subst (HoldsRounds s roads told (made ++ c.args.round ∷ [])) (sym c.in_ok-push.ensures.items)
          (zip-push (HoldsRound s roads told) made c.args.self.now.rounds.items c.args.round c.in_ok-held.field-0 took.3 c.in_ok-held.ensures),
    )
