-- What a worker has done.
use Rattle.std.specs.Prelude.{◌≡◌, ℕ, ◌<◌, ◌≤◌, List, [], ◌∷◌, ◌++◌, map, All, true, false, sum_by}
use Rattle.atomic_table.specs.Seated.{TableId}
use Rattle.shared_work.specs.declared.worker.Done.{Done}
use Rattle.shared_work.specs.declared.worker.Worker.{Worker}
use Rattle.shared_work.specs.work.Claims.{draws, at, past}

module _ {O : Type 0} where
  -- the worker has a seat of this table, and has drawn nothing
  pub record IsReady (table : TableId) (w : Worker O) : Type 0 where
    pub own : w.hand.table_id ≡ table
    pub fresh : w.hand.me ≡ (draws 1 [], [])
    pub none_done : w.done.items ≡ []
    pub begun : w.ended ≡ false

  -- what was done is right for its piece
  abbrev pub AreDoneRight : ℕ → (ℕ → O → Type 0) → List (Done O) → Type 0
  AreDoneRight pieces right done = All (λ d. (d.piece < pieces) × right d.piece d.out) done

  -- the pieces that were done, in their order
  abbrev pub pieces_of : List (Done O) → List ℕ
  pieces_of done = map (λ d. d.piece) done

  -- the numbers drawn are the pieces done, each as often, and some number past them
  pub record Matches (pieces : ℕ) (numbers : List ℕ) (done : List (Done O)) : Type 0 where
    pub past_drawn : 1 ≤ sum_by (past pieces) numbers
    pub done_drawn : (k : ℕ) → k < pieces → sum_by (at k) numbers ≡ sum_by (λ d. at k d.piece) done

  -- the worker has its seat still. If it ended, it has done each piece that it drew, once, and then drew a number past the pieces
  pub record HasWorked (table : TableId) (pieces : ℕ) (w : Worker O) : Type 0 where
    pub own : w.hand.table_id ≡ table
    pub part : w.hand.me.0.parts ≡ 1
    pub empty_handed : w.hand.me.1 ≡ []
    pub ended : w.ended ≡ true → (last : ℕ) × (pieces ≤ last) × (w.hand.me.0.numbers ≡ pieces_of w.done.items ++ last ∷ [])

  -- so many workers together, each of which ended
  pub record HaveEnded (table : TableId) (pieces parts : ℕ) (w : Worker O) : Type 0 where
    pub own : w.hand.table_id ≡ table
    pub whole : w.hand.me.0.parts ≡ parts
    pub empty_handed : w.hand.me.1 ≡ []
    pub matches : Matches pieces w.hand.me.0.numbers w.done.items

  -- each piece was done once
  abbrev pub EachDoneOnce : ℕ → List (Done O) → Type 0
  EachDoneOnce pieces done = (k : ℕ) → k < pieces → sum_by (λ d. at k d.piece) done ≡ 1
