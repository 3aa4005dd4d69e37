use Rattle.std.proofs.Common.{◌≡◌, ℕ, List, [], Bor, length, map, refl, arith}
use Rattle.pool_io.proofs.Common.{length-map, fields_of}
use Rattle.std.proofs.lemmas.List.{ext_get_or}
use Rattle.pool_io.proofs.records.is_header.Goals as goal

pub returns : goal.returns
returns c =
    let long : length (fields_of c.args.row.now) ≡ length (map (λ (word : Bor (List ℕ)). word.now) c.args.words.now) = rw length-map (omega arith) in (
      λ _. ext_get_or [] (fields_of c.args.row.now) (map (λ (word : Bor (List ℕ)). word.now) c.args.words.now) long
          (λ k below. c.loop-place.invariant k (omega (arith, below))),
      λ _. refl,
    )
