use Rattle.std.proofs.Common.{rules, ◌≡◌, ℕ, List, sym, subst}
use Rattle.input_rows.proofs.Common.{Roads, Texts, AreReadable, IsNetworkText, IsScriptText}
use Rattle.input_rows.specs.work.made.Some.{AreSomeRounds, IsSomeFleet, IsSomeNetwork}

-- a text is read as one network alone
same_network : (text : List ℕ) (one other : Roads) → IsNetworkText text one → IsNetworkText text other → one ≡ other
same_network text one other here there = search rules

-- a text that is the network's, the fleet's and the script's
pub some_network : (texts : Texts) (text : List ℕ) → AreReadable texts → text ≡ texts.network → IsSomeNetwork text
some_network texts text all is = (all.roads, subst (λ t. IsNetworkText t all.roads) (sym is) all.read.network)

pub some_fleet : (texts : Texts) (text network : List ℕ) (roads : Roads) → AreReadable texts → text ≡ texts.fleet → network ≡ texts.network →
    IsNetworkText network roads → IsSomeFleet roads.nodes text
some_fleet texts text network roads all is from read = search (rules, same_network)

pub some_rounds : (texts : Texts) (text : List ℕ) → AreReadable texts → text ≡ texts.script → AreSomeRounds text
some_rounds texts text all is = (all.rounds, subst (λ t. IsScriptText t all.rounds) (sym is) all.read.script)
