use Rattle.std.proofs.Common.{◌≡◌, [], sym, subst, IfOk}
use Rattle.request_book.proofs.Common.{Vehicle, opening, IsNode}
use Rattle.std.specs.List.{All}
use Rattle.request_book.proofs.book.Book.new.Goals as goal

pub over-requires : goal.over-requires
over-requires c = subst (λ ns. All (λ (v : Vehicle). IsNode ns v.node) c.args.fleet) (sym c.in_ok-number_nodes.ensures) c.requires

pub returns : goal.returns
returns c =
    let fleet = c.args.fleet in
    subst (λ ns. IfOk c.over.result (λ book. book ≡ record {
      nodes = ns;
      wait = c.args.wait;
      first = 0;
      base = opening fleet;
      entries = [];
      state =
          opening fleet;
      spare = 0;
    })) c.in_ok-number_nodes.ensures c.over.ensures
