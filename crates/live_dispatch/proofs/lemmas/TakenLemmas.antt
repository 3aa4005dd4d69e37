-- Rows that are taken from those to come.
use Rattle.std.proofs.Common.{rules, List, [], ◌∷◌, ◌++◌, Option, None, Some, refl, sym, ap, subst, ◌∙◌, append_assoc, append-nil}
use Rattle.live_dispatch.specs.Phase.{AreRows, BeginWithRows, TakesRun}
use Rattle.live_dispatch.specs.declared.read_on.Halt.{Halt}
use Rattle.live_dispatch.specs.declared.read_on.Halt.TheVariants as stop
use Rattle.input_rows.specs.live.Rows.{NoRows, TakesRows}
use Rattle.input_rows.specs.declared.script.script_row.ScriptRow.{ScriptRow}

pub takes-none : (old : Option (List ScriptRow)) → TakesRows old old []
takes-none None = tt
takes-none (Some all) = refl

pub takes-more : (a b c : Option (List ScriptRow)) (xs ys : List ScriptRow) → TakesRows a b xs → TakesRows b c ys → TakesRows a c (xs ++ ys)
takes-more (Some all) (Some mid) (Some end) xs ys p q = p ∙ ap (λ l. xs ++ l) q ∙ sym (append_assoc xs ys end)
takes-more _ _ _ xs ys p q = search rules

-- those taken first begin those to come
pub takes-begin : (old new : Option (List ScriptRow)) (xs ys : List ScriptRow) → TakesRows old new (xs ++ ys) → BeginWithRows old xs
takes-begin (Some all) (Some rest) xs ys takes = (ys ++ rest, takes ∙ append_assoc xs ys rest)
takes-begin _ _ xs ys takes = search rules

pub takes-start : (old new : Option (List ScriptRow)) (rows : List ScriptRow) → TakesRows old new rows → BeginWithRows old rows
takes-start (Some all) (Some rest) rows takes = (rest, takes)
takes-start _ _ rows takes = search rules

-- where none is left, those taken are all
pub takes-all : (old new : Option (List ScriptRow)) (rows : List ScriptRow) → TakesRows old new rows → NoRows new → AreRows old rows
takes-all (Some all) (Some rest) rows takes none = takes ∙ ap (λ l. rows ++ l) none ∙ append-nil rows
takes-all _ _ rows takes none = search rules

pub all-begin : (old : Option (List ScriptRow)) (rows : List ScriptRow) → AreRows old rows → BeginWithRows old rows
all-begin None rows are = tt
all-begin (Some all) rows are = ([], are ∙ sym (append-nil rows))

begins-more : (a b : Option (List ScriptRow)) (xs ys : List ScriptRow) → TakesRows a b xs → BeginWithRows b ys → BeginWithRows a (xs ++ ys)
begins-more (Some old) (Some mid) xs ys p q = (q.0, p ∙ ap (λ l. xs ++ l) q.1 ∙ sym (append_assoc xs ys q.0))
begins-more _ _ xs ys p q = search rules

-- rows that were run behind others
pub runs-more : (end : Halt) (a b c : Option (List ScriptRow)) (xs ys : List ScriptRow) → TakesRows a b xs → TakesRun end b c ys → TakesRun end a c (xs ++ ys)
runs-more (stop.Held row) a b c xs ys p q = subst (TakesRows a c) (sym (append_assoc xs ys (row ∷ []))) (takes-more a b c xs (ys ++ row ∷ []) p q)
runs-more stop.Ended a b c xs ys p q = all a b p q
  where
    all : (a b : Option (List ScriptRow)) → TakesRows a b xs → AreRows b ys → AreRows a (xs ++ ys)
    all (Some old) (Some mid) p q = p ∙ ap (λ l. xs ++ l) q
    all _ _ p q = search rules
runs-more _ a b c xs ys p q = begins-more a b xs ys p q

pub runs-begin : (end : Halt) (old new : Option (List ScriptRow)) (rows : List ScriptRow) → TakesRun end old new rows → BeginWithRows old rows
runs-begin (stop.Held row) old new rows run = takes-begin old new rows (row ∷ []) run
runs-begin stop.Ended old new rows run = all-begin old rows run
runs-begin _ old new rows run = run
