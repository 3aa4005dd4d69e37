-- How a pass runs its lane's commands, piece by piece.
use Rattle.std.proofs.Common.{
  ◌≡◌,
  ℕ,
  ◌≤◌,
  true,
  List,
  [],
  ◌∷◌,
  ◌++◌,
  map,
  Option,
  Some,
  None,
  refl,
  sym,
  ap,
  subst,
  ◌∙◌,
  append_assoc,
  append-nil,
  true≢false,
  arith,
}
use Rattle.dispatch_engine.proofs.Common.{
  map-append,
  All-nil,
  All-cons,
  All-append,
  All-weaker,
  Batch,
  IsGoodOutcome,
  Command,
  Seal,
  Close,
  Entry,
  Reply,
  Accepted,
  Settings,
  Roads,
  entry,
  LoggedCall,
  LockedReply,
  entry_of,
  is_light,
  sealed_by,
  BookPass,
  with_snapshot,
  HasCalled,
  HasCalledSome,
  IsSamePass,
  IsLaneRunFrom,
  IsLaneRun,
  IsLaneBeginning,
  last_sealed,
  IsGoodFor,
  LaneClosesAreGood,
  HasGained,
  HasRun,
  IsPlain,
  calls_of_pass,
}
use Rattle.std.proofs.lemmas.Simd.{map-map}
use Rattle.request_book.specs.declared.values.outcome.Answer.TheVariants.{Overflow}
use Rattle.request_book.specs.declared.values.outcome.Outcome.{Outcome}
use Rattle.dispatch_engine.specs.declared.lanes.shared.Receipt.{Receipt}
use Rattle.dispatch_engine.specs.lanes.Locked.{Fits}
use Rattle.dispatch_engine.proofs.lemmas.lanes.RunLemmas.{begun-next, run-append}

-- there are runs of any commands
some-run : (cs : List Command) → (es : List Entry) × IsLaneRun cs es
some-run [] = ([], tt)
some-run (c ∷ cs) = let rest = some-run cs in ((record { lane = 0; command = c; reply = Accepted }) ∷ rest.0, (refl, rest.1))

-- a beginning of a run of some commands is one of a run of more
begun-more : (cs ds : List Command) (es : List Entry) → IsLaneBeginning cs es → IsLaneBeginning (cs ++ ds) es
begun-more cs ds es p =
    let rest = some-run ds in
    (p.0 ++ rest.0, subst (IsLaneRun (cs ++ ds)) (append_assoc es p.0 rest.0) (run-append None cs ds (es ++ p.0) rest.0 p.1 rest.1))

-- a command that is no seal is answered without a batch
light-unsealed : (nodes : List ℕ) (command : Command) (reply : Reply) (snapshot : Option Batch) → is_light command ≡ true →
    Fits nodes command (with_snapshot reply snapshot) → sealed_by reply ≡ None
light-unsealed nodes command reply None light fits = sym fits.sealed
light-unsealed nodes command reply (Some b) light fits = absurd (true≢false (sym light ∙ fits.seals b refl))

nothing-left : (p : Option ℕ) → p ≡ None → IsLaneRunFrom p [] []
nothing-left None e = tt
nothing-left (Some batch) e = absurd cc

gained-same : (old new : BookPass) → IsSamePass old new → HasGained [] old new
gained-same old new same = record {
  calls = same.0 ∙ sym (append-nil old.calls);
  behind = All-nil (λ (c : ℕ × LoggedCall Command LockedReply). old.seen ≤ c.0);
  seen = same.1;
}

gained-call : (nodes : List ℕ) (old new : BookPass) (command : Command) (position : ℕ) (reply : LockedReply) → HasCalled nodes old command position reply new
    → HasGained ((position, entry old.lane command reply) ∷ []) old new
gained-call nodes old new command position reply called =
    let P : ℕ × LoggedCall Command LockedReply → Type 0 = λ c. old.seen ≤ c.0 in
    record {
      calls = called.calls;
      behind = All-cons P (position, entry old.lane command reply) [] called.after (All-nil P);
      seen = omega (arith, called.after, called.seen);
    }

gained-more : (a b c : BookPass) (xs ys : List (ℕ × LoggedCall Command LockedReply)) → HasGained xs a b → HasGained ys b c → HasGained (xs ++ ys) a c
gained-more a b c xs ys p q =
    let P : ℕ × LoggedCall Command LockedReply → Type 0 = λ e. a.seen ≤ e.0 in
    record {
      calls = q.calls ∙ ap (λ l. l ++ ys) p.calls ∙ append_assoc a.calls xs ys;
      behind = All-append P xs ys p.behind (All-weaker (λ (e : ℕ × LoggedCall Command LockedReply). b.seen ≤ e.0) P (λ e after. omega (arith, p.seen, after)) ys
          q.behind);
      seen = omega (arith, p.seen, q.seen);
    }

module _ (settings : Settings) (roads : Roads) where
  -- what is good though nothing was sealed before is good after any batch
  later : (last : Option Batch) (calls : List (LoggedCall Command LockedReply)) → LaneClosesAreGood settings roads None calls →
      LaneClosesAreGood settings roads last calls
  later last [] good = tt
  later last (c ∷ cs) good = (here c.call good.0, by c.reply.snapshot (later last cs) good.1)
    where
      here : (command : Command) → IsGoodFor settings roads None command → IsGoodFor settings roads last command
      here (Close batch outcome) g = let none : None ≡ Some g.0 = g.1 in absurd cc
      here _ g = tt

      by : (snapshot : Option Batch) → (LaneClosesAreGood settings roads None cs → LaneClosesAreGood settings roads last cs) →
          LaneClosesAreGood settings roads (last_sealed None snapshot) cs → LaneClosesAreGood settings roads (last_sealed last snapshot) cs
      by None rest g = rest g
      by (Some b) rest g = g

  closes-append : (last : Option Batch) (xs ys : List (LoggedCall Command LockedReply)) → LaneClosesAreGood settings roads last xs →
      LaneClosesAreGood settings roads None ys → LaneClosesAreGood settings roads last (xs ++ ys)
  closes-append last [] ys p q = later last ys q
  closes-append last (x ∷ xs) ys p q = (p.0, closes-append (last_sealed last x.reply.snapshot) xs ys p.1 q)

  pub runs-none : (p : BookPass) → HasRun settings roads (IsLaneRun []) p p
  runs-none p = record { more = []; gained = gained-same p p (refl, omega arith); run = tt; closes = tt }

  -- calls that are so, and then others
  pub runs-more : (Are Be Both : List Entry → Type 0) → ((es fs : List Entry) → Are es → Be fs → Both (es ++ fs)) → (a b c : BookPass) →
      HasRun settings roads Are a b → HasRun settings roads Be b c → HasRun settings roads Both a c
  runs-more Are Be Both join a b c p q = record {
    more = p.more ++ q.more;
    gained = gained-more a b c p.more q.more p.gained q.gained;
    run = subst Both (sym (map-append (λ c. entry_of c.1) p.more q.more)) (join _ _ p.run q.run);
    closes = subst (LaneClosesAreGood settings roads None) (sym (map-append (λ c. c.1) p.more q.more)) (closes-append None _ _ p.closes q.closes);
  }

  -- a run of some commands, and a beginning of a run of more
  pub begun-after : (a b c : BookPass) (cs ds rest : List Command) → HasRun settings roads (IsLaneRun cs) a b → HasRun settings roads (IsLaneBeginning ds) b c →
      HasRun settings roads (IsLaneBeginning ((cs ++ ds) ++ rest)) a c
  begun-after a b c cs ds rest = runs-more (IsLaneRun cs) (IsLaneBeginning ds) (IsLaneBeginning ((cs ++ ds) ++ rest))
      (λ es fs p q. begun-more (cs ++ ds) rest (es ++ fs) (begun-next cs ds es fs p q)) a b c

  -- a plain command
  pub runs-plain : (nodes : List ℕ) (old new : BookPass) (command : Command) (receipt : Receipt) → IsPlain command →
      HasCalledSome nodes old command receipt new → HasRun settings roads (IsLaneRun (command ∷ [])) old new
  runs-plain nodes old new command receipt plain called = record {
    more = (receipt.position, entry old.lane command (with_snapshot receipt.reply called.snapshot)) ∷ [];
    gained = gained-call nodes old new command receipt.position (with_snapshot receipt.reply called.snapshot) called.called;
    run = (
      refl,
      nothing-left (sealed_by receipt.reply) (light-unsealed nodes command receipt.reply called.snapshot
          (let light : is_light command ≡ true = grind arith in light) called.called.fits),
    );
    closes = (here command plain, tt);
  }
    where
      here : (command : Command) → IsPlain command → IsGoodFor settings roads None command
      here (Close batch outcome) p = absurd p
      here _ p = tt

  -- a seal that is refused
  pub runs-refused : (nodes : List ℕ) (old new : BookPass) (now position : ℕ) (reply : Reply) →
      HasCalled nodes old (Seal now) position (with_snapshot reply None) new → HasRun settings roads (IsLaneRun (Seal now ∷ [])) old new
  runs-refused nodes old new now position reply called = record {
    more = (position, entry old.lane (Seal now) (with_snapshot reply None)) ∷ [];
    gained = gained-call nodes old new (Seal now) position (with_snapshot reply None) called;
    run = (refl, nothing-left (sealed_by reply) (sym called.fits.sealed));
    closes = (tt, tt);
  }

  -- a seal, and the close of its batch
  pub runs-sealed : (nodes : List ℕ) (old between new : BookPass) (now position : ℕ) (reply : Reply) (b : Batch) (outcome : Outcome) (receipt : Receipt)
      → HasCalled nodes old (Seal now) position (with_snapshot reply (Some b)) between → HasCalledSome nodes between (Close b.number outcome) receipt new →
      IsGoodOutcome settings roads b outcome → HasRun settings roads (IsLaneRun (Seal now ∷ [])) old new
  runs-sealed nodes old between new now position reply b outcome receipt sealed closed good =
      let first : ℕ × LoggedCall Command LockedReply = (position, entry old.lane (Seal now) (with_snapshot reply (Some b))) in
      let second : ℕ × LoggedCall Command LockedReply = (
        receipt.position,
        entry between.lane (Close b.number outcome)
            (with_snapshot receipt.reply closed.snapshot),
      ) in
      let second_entry : Entry = entry_of second.1 in
      record {
        more = first ∷ second ∷ [];
        gained = gained-more old between new (first ∷ []) (second ∷ [])
            (gained-call nodes old between (Seal now) position (with_snapshot reply (Some b)) sealed)
            (gained-call nodes between new (Close b.number outcome) receipt.position (with_snapshot receipt.reply closed.snapshot) closed.called);
        run = (refl, subst (λ (o : Option ℕ). IsLaneRunFrom o [] (second_entry ∷ [])) sealed.fits.sealed (refl, tt));
        closes = (tt, ((b, refl, good), tt));
      }

  -- no call more
  pub begun-none : (commands : List Command) (old new : BookPass) → IsSamePass old new → HasRun settings roads (IsLaneBeginning commands) old new
  begun-none commands old new same = let run = some-run commands in record {
    more = [];
    gained = gained-same old new same;
    run = (run.0, run.1);
    closes = tt;
  }

  -- a seal whose batch isn't closed yet
  pub begun-sealed : (nodes : List ℕ) (old between new : BookPass) (now position : ℕ) (reply : Reply) (b : Batch)
      → HasCalled nodes old (Seal now) position (with_snapshot reply (Some b)) between → IsSamePass between new →
      HasRun settings roads (IsLaneBeginning (Seal now ∷ [])) old new
  begun-sealed nodes old between new now position reply b sealed same =
      let first : ℕ × LoggedCall Command LockedReply = (position, entry old.lane (Seal now) (with_snapshot reply (Some b))) in
      let outcome : Outcome = record { expired = []; answer = Overflow } in
      let close : Entry = record { lane = 0; command = Close b.number outcome; reply = Accepted } in
      record {
        more = first ∷ [];
        gained = gained-more old between new (first ∷ []) [] (gained-call nodes old between (Seal now) position (with_snapshot reply (Some b)) sealed)
            (gained-same between new same);
        run = (close ∷ [], (refl, subst (λ (o : Option ℕ). IsLaneRunFrom o [] (close ∷ [])) sealed.fits.sealed (refl, tt)));
        closes = (tt, tt);
      }

  -- a pass that had made no call
  pub ran-fresh : (old new : BookPass) (commands : List Command) → HasRun settings roads (IsLaneRun commands) old new → old.calls ≡ [] →
      IsLaneRun commands (map entry_of (calls_of_pass new)) × LaneClosesAreGood settings roads None (calls_of_pass new)
  ran-fresh old new commands p fresh =
      let calls : new.calls ≡ p.more = p.gained.calls ∙ ap (λ l. l ++ p.more) fresh in
      (rw (calls, map-map) p.run, rw calls p.closes)
