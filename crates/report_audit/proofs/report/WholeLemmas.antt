-- All rounds of a report.
use Rattle.std.proofs.Common.{
  ◌≡◌,
  ℕ,
  ◌+◌,
  ◌<◌,
  ◌≤◌,
  ◌^◌,
  ◌↔◌,
  add-one,
  drop,
  codes,
  get_or,
  take,
  true,
  Bool,
  IsTrue,
  List,
  [],
  ◌∷◌,
  ◌++◌,
  length,
  refl,
  sym,
  ap,
  ◌∙◌,
  subst,
  append_assoc,
  append-nil,
  rules,
}
use Rattle.report_audit.proofs.Common.{
  drop_all,
  drop_more,
  position_after_run,
  Vehicle,
  head_text,
  end_text,
  numbered,
  rounds_text,
  IsFirstLine,
  IsNextLine,
  BeginsWithHead,
  BookView,
  next_position,
  opening,
  Settings,
  Roads,
  NumberedLanes,
  Extent,
  AuditFault,
  HasFault,
  IsAudited,
  IsRoundStart,
  IsBetween,
  IsFaultAt,
  OnlyFollows,
}
use Rattle.std.proofs.Math.Seq.{take-suc}
use Rattle.std.proofs.lemmas.List.{take_all}
use Rattle.report_audit.specs.declared.lines.next.NextLine.TheVariants.{Done as DoneOf}
use Rattle.report_audit.proofs.report.TextLemmas.{end-is, next-low, next-none}

-- items up to the next one
take_next : {X : Type 0} (xs : List X) (i : ℕ) (x : X) → i < length xs → x ≡ get_or xs i x → take i xs ++ x ∷ [] ≡ take (i + 1) xs
take_next xs i x within is = ap (λ y. take i xs ++ y ∷ []) is ∙ sym (rw add-one (take-suc xs i x within))

-- the next position of a book without entries is its first
pub first_next : {settings : Settings} {roads : Roads} {b : BookView} → IsRoundStart settings roads b → next_position b.first b.entries ≡ b.first
first_next {settings} {roads} {b} start = ap (next_position b.first) start.empty ∙ next-none b.first start.book.low

module _ {settings : Settings} {roads : Roads} {report : List ℕ} {vehicles : List Vehicle} (rounds : List NumberedLanes) {workers : ℕ} where
  -- before the first round
  pub between_start : {text : List ℕ} → BeginsWithHead workers roads (length vehicles) report settings text → (b : BookView) → IsRoundStart settings roads b →
      b.state ≡ opening vehicles → b.first ≡ 0
      → IsBetween settings roads report vehicles rounds workers [] rounds true b text 0
  between_start begins b start state first = record {
    audited = begins.settings;
    read = head_text settings roads (length vehicles);
    whole = begins.whole;
    right = record {
      made = [];
      all = refl;
      rounds_made = record { run = tt; told = tt };
      position_is = first;
      printed =
          sym (append-nil (head_text settings roads (length vehicles)));
    };
    start = start;
    state = state;
    counted = refl;
    is_first = (λ e. refl, λ e. refl);
  }

  module _ (i : ℕ) {first : Bool} {b : BookView} {text : List ℕ} {count : ℕ} where
    -- before the round of this number
    pub at_round : (r : NumberedLanes) → i < length rounds → r ≡ get_or rounds i r → IsBetween settings roads report vehicles rounds workers (take i rounds)
        (drop i rounds) first b text count
        → IsBetween settings roads report vehicles rounds workers (take i rounds) (r ∷ drop (i + 1) rounds) first b text count
    at_round r low is between = search (rules, drop_more)

    -- and behind it
    pub next_round : (r : NumberedLanes) → i < length rounds → r ≡ get_or rounds i r → IsBetween settings roads report vehicles rounds workers
        (take i rounds ++ r ∷ []) (drop (i + 1) rounds) first b text count
        → IsBetween settings roads report vehicles rounds workers (take (i + 1) rounds) (drop (i + 1) rounds) first b text count
    next_round r low is between = search (rules, take_next)

    -- behind the last
    pub at_end : length rounds ≤ i → IsBetween settings roads report vehicles rounds workers (take i rounds) (drop i rounds) first b text count
        → IsBetween settings roads report vehicles rounds workers rounds [] first b text count
    at_end all between = search (rules, take_all, drop_all)

  module _ {first : Bool} {b : BookView} {text : List ℕ} {count : ℕ} (between : IsBetween settings roads report vehicles rounds workers rounds [] first b text
      count)
      (entries : ℕ) (is : entries ≡ next_position b.first b.entries) where
    entries_are : entries ≡ position_after_run 0 between.right.made
    entries_are = is ∙ first_next between.start ∙ between.right.position_is

    -- at the last line
    pub fault_at_end : (fault : AuditFault) → ((settings : Settings) (roads : Roads) (before later : List NumberedLanes) (position : ℕ) →
        IsTrue first ↔ (before ≡ []) → OnlyFollows (DoneOf entries) later position
        → IsFaultAt settings roads report (Extent.between before later position) text fault) → HasFault roads vehicles rounds workers report fault
    fault_at_end fault at = at settings roads rounds [] entries between.is_first (λ s r before line follow.
        (subst (λ (k : ℕ). k < 2 ^ 64) (sym is) (next-low b.first b.entries), follow))
        vehicles rounds workers between.read between.audited between.whole
        (record {
          made = between.right.made;
          all = between.right.all;
          rounds_made = between.right.rounds_made;
          position_is = entries_are;
          printed =
              between.right.printed;
        })

    module _ (line after : List ℕ) (has : IsFirstLine text line after) (form : IsNextLine (DoneOf entries) line) where
      last : List ℕ
      last = end_text (position_after_run 0 between.right.made)

      text_is : text ≡ last ++ after
      unfolding last
      text_is = has.whole ∙ ap (λ (l : List ℕ). l ++ 10 ∷ after) form.1 ∙ sym (append_assoc (numbered (codes "done ") entries) (10 ∷ []) after)
          ∙ ap (λ (t : List ℕ). t ++ after) (sym (end-is entries)) ∙ ap (λ (k : ℕ). end_text k ++ after) entries_are

      -- behind it
      pub fault_behind : (fault : AuditFault) → IsFaultAt settings roads report Extent.finished after fault →
          HasFault roads vehicles rounds workers report fault
      unfolding last
      fault_behind fault at = at vehicles rounds workers (between.read ++ last) between.audited
          (between.whole ∙ ap (λ (t : List ℕ). between.read ++ t) text_is ∙ sym (append_assoc between.read last after))
          (record { made = between.right.made; rounds_made = between.right.rounds_made; printed = ap (λ (t : List ℕ). t ++ last) between.right.printed })

      -- the report was read
      pub all_read : after ≡ [] → IsAudited roads vehicles rounds workers report (record { entries = entries; batches = count })
      unfolding last
      all_read none = record {
        report = record {
          settings = settings;
          audited = between.audited;
          made = between.right.made;
          run = between.right.rounds_made.run;
          told = between.right.rounds_made.told;
          printed = between.whole ∙ ap (λ (t : List ℕ). between.read ++ t) (text_is ∙ ap (λ (t : List ℕ). last ++ t) none ∙ append-nil last)
              ∙ ap (λ (t : List ℕ). t ++ last) between.right.printed ∙ append_assoc (head_text settings roads (length vehicles))
              (rounds_text rounds between.right.made) last;
        };
        entries = entries_are;
        batches = between.counted;
      }
