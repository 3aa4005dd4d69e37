use Rattle.std.proofs.Common.{◌≡◌, ◌*◌, length, arith, rules}
use Rattle.pool_base.proofs.TableLemmas.{IsTable-from_none}
use Rattle.pool_base.proofs.times_check.check.Goals as goal

pub returns : goal.returns
returns c =
    let n = c.args.points in
    let cells = c.args.cells.now in
    let square : length cells ≡ n * n = search rules in
    IsTable-from_none n cells square (λ k _. omega (arith, c.type_inv.cells k)) c.in_default.ensures c.in_default-first_off_zero.ensures
    c.in_default-first_detour.ensures
