-- How one more read of a record goes on.
use Rattle.std.proofs.Common.{rules, ◌≡◌, ℕ, List, [], ◌∷◌, ◌++◌, Some, Bool, true, false, Bor, inl, ◌∙◌, MatchBool}
use Rattle.pool_io.proofs.Common.{ReadRecord, default_config, strip_bom, Reader, records_of, HasRead}
use Rattle.csv.proofs.ReadFacts.{rows-end, rows-more}
use Rattle.pool_io.proofs.RecordList.{records_of-all}
use Rattle.csv.specs.declared.parser.State.TheVariants as st

pub read_on : (bytes : List ℕ) (rows : List (List (List ℕ))) (old new : Reader (Bor (List ℕ))) (found : Bool) (fields : List (List ℕ))
    → HasRead bytes rows old → ReadRecord (λ (text : Bor (List ℕ)). Some text.now) old new found fields → (new.first ≡ true)
    → MatchBool found (HasRead bytes (rows ++ fields ∷ []) new) (records_of bytes ≡ rows)
read_on bytes rows old new true fields h r began =
    let more = rows-more (λ (text : Bor (List ℕ)). Some text.now) old new fields default_config st.StartRecord (strip_bom bytes) h.rest rows h.config h.left
    h.reached r in
    record {
      untrimmed = r.3 ∙ h.untrimmed;
      ready = inl began;
      config = r.2 ∙ h.config;
      rest = more.0;
      left = more.1;
      reached = more.2;
    }
read_on bytes rows old new false fields h r began = search (rules, records_of-all, rows-end)
