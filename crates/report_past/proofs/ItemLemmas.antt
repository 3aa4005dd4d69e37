-- An item of a report: an entry, behind the line of its round where it begins.
use Rattle.std.proofs.Common.{◌≡◌, ℕ, ◌<◌, ◌≤◌, Bool, true, unwrap_or, List, [], ◌∷◌, ◌++◌, Option, Some, None, refl, sym, ap, subst, ◌∙◌, append_assoc, arith}
use Rattle.std.proofs.lemmas.List.Elements.{All-append, All-weaker}
use Rattle.dispatch_engine.specs.lanes.Lane.{last_sealed}
use Rattle.dispatch_engine.specs.lanes.Locked.{snapshot_before}
use Rattle.dispatch_engine.specs.outcome.Outcome.{IsGoodOutcome}
unfoldable use Rattle.dispatch_report.specs.Round.{round_text, entries_lines}
use Rattle.dispatch_report.specs.Round.{entry_text, round_line}
use Rattle.input_rows.specs.declared.script.script_row.ScriptRow.{ScriptRow}
use Rattle.input_rows.specs.script.ScriptRow.{IsBehind}
use Rattle.report_past.proofs.lemmas.CloseLemmas.{round_last}
use Rattle.report_past.proofs.FinishLemmas.{Begins, begins}
use Rattle.report_past.proofs.RoundLemmas.{own_most}
use Rattle.report_past.proofs.lemmas.StepLemmas.{push_close, push_row}
use Rattle.report_past.specs.Told.{close_of}
use Rattle.report_past.specs.work.Reading.{IsInRound, IsReading, Stand, StandsIn, stand, start_text}
use Rattle.request_book.specs.Book.{BookView, IsApplied, next_position}
use Rattle.request_book.specs.notices.Notices.{entry_notices}
use Rattle.request_book.specs.values.Batch.{Batch}
use Rattle.request_book.specs.declared.notices.notice.Notice.{Notice}
use Rattle.request_book.specs.declared.values.command.Command.TheVariants.{Close}
use Rattle.request_book.specs.declared.values.journal.Entry.{Entry}
use Rattle.request_book.specs.declared.values.journal.Journal.{Journal}
use Rattle.request_book.specs.declared.values.outcome.Outcome.{Outcome}
use Rattle.request_book.specs.declared.values.reply.Reply.{Reply}
use Rattle.request_book.specs.declared.values.reply.Reply.TheVariants.{Closed}
use Rattle.request_book.specs.declared.values.vehicle.Vehicle.{Vehicle}
use Rattle.rider_limits.specs.declared.settings.Settings.{Settings}
use Rattle.road_network.specs.Roads.{Roads}

-- a round without entries is its line
no_entries : (number : ℕ) (j : Journal) → j.entries ≡ [] → round_text number true j ≡ round_line number
unfolding round_text entries_lines
no_entries number j empty = ap (λ es. round_text number true (record j { entries = es })) empty

-- rows are some, with one more at their end
pub record Pushed (rows : List ScriptRow) (row : ScriptRow) : Type 0 where
  pub head : ScriptRow
  pub tail : List ScriptRow
  pub is : rows ++ row ∷ [] ≡ head ∷ tail

pushed : (rows : List ScriptRow) (row : ScriptRow) → Pushed rows row
pushed [] row = record { head = row; tail = []; is = refl }
pushed (r ∷ rows) row = record { head = r; tail = rows ++ row ∷ []; is = refl }

module _ (settings : Settings) (roads : Roads) (vehicles : List Vehicle) (judged : Bool) where
  -- a round goes on with an entry
  goes_on : (before : List ℕ) (front rows : List ScriptRow) (row : ScriptRow) (done : List Journal) (j : Journal) (e : Entry) (number : ℕ) (b now : BookView)
      (old next : Option Batch) (were told : List Notice)
      → IsInRound settings roads vehicles judged before front rows done j number b old were
      → IsInRound settings roads vehicles judged before front (rows ++ row ∷ []) done (record j { entries = j.entries ++ e ∷ [] }) number now next told
      → IsReading settings roads vehicles judged ((before ++ round_text number true j) ++ entry_text true (next_position b.first b.entries) e)
      (stand (Some number) now next told)
  goes_on before front rows row done j e number b now old next were told is more =
      let p = pushed rows row in
      subst (λ t. IsReading settings roads vehicles judged t (stand (Some number) now next told))
      (ap (λ t. before ++ t) (round_last number true j e is.low ∙ ap (λ q. round_text number true j ++ entry_text true q e) (sym is.position))
      ∙ sym (append_assoc before (round_text number true j) (entry_text true (next_position b.first b.entries) e)))
      (IsReading.in_round before front p.head p.tail done (record j { entries = j.entries ++ e ∷ [] }) number now next told
      (subst (λ rs. IsInRound settings roads vehicles judged before front rs done (record j { entries = j.entries ++ e ∷ [] }) number now next told) p.is more))

  abbrev made : ScriptRow → Reply → Entry
  made row reply = record { lane = row.lane; command = row.command; reply = reply }

  abbrev Reads : List ℕ → Stand → Type 0
  Reads read s = IsReading settings roads vehicles judged read s

  -- a row is read
  row_new : (read : List ℕ) (s : Stand) (row : ScriptRow) (reply : Reply) (now : BookView) (sealed : Option Batch) → s.open_batch ≡ None → IsBehind 0 row →
      Begins settings roads vehicles judged read row.round s.book s.open_batch s.notices
      → IsApplied s.book row.lane row.command reply now → sealed ≡ snapshot_before s.book.wait s.book.state row.command
      → Reads (read ++ (round_line row.round ++ entry_text true (next_position s.book.first s.book.entries) (made row reply)))
      (stand (Some row.round) now (last_sealed s.open_batch sealed) s.notices)
  row_new read s row reply now sealed closed lawful begin applied sealed_is =
      let text = entry_text true (next_position s.book.first s.book.entries) (made row reply) in
      subst (λ t. Reads t (stand (Some row.round) now (last_sealed s.open_batch sealed) s.notices))
      (ap (λ t. (read ++ t) ++ text) (no_entries row.round begin.j begin.empty) ∙ append_assoc read (round_line row.round) text)
      (goes_on read begin.front [] row begin.done begin.j (made row reply) row.round s.book now s.open_batch (last_sealed s.open_batch sealed) s.notices
      s.notices begin.is
      (push_row settings roads vehicles judged read begin.front [] begin.done begin.j row.round s.book s.open_batch s.notices begin.is row reply now sealed refl
      begin.below lawful (λ _. closed) applied sealed_is))

  row_same : (read : List ℕ) (s : Stand) (row : ScriptRow) (reply : Reply) (now : BookView) (sealed : Option Batch) → Reads read s → s.last ≡ Some row.round →
      IsBehind 0 row → (row.lane ≡ 0 → s.open_batch ≡ None)
      → IsApplied s.book row.lane row.command reply now → sealed ≡ snapshot_before s.book.wait s.book.state row.command
      → Reads (read ++ entry_text true (next_position s.book.first s.book.entries) (made row reply))
      (stand (Some row.round) now (last_sealed s.open_batch sealed) s.notices)
  row_same _ _ row reply now sealed (IsReading.at_start b open_batch notices start) last lawful free applied sealed_is = absurd cc
  row_same _ _ row reply now sealed (IsReading.in_round before front r rows done j number b open_batch notices is) last lawful free applied sealed_is =
      let same : row.round ≡ number = ap (λ o. unwrap_or o 0) (sym last) in
      let below = All-append (λ (l : ScriptRow). l.round ≤ number) front (r ∷ rows)
      (All-weaker (λ (l : ScriptRow). l.round < number) (λ l. l.round ≤ number) (λ l h. omega (arith, h)) front is.earlier)
      (own_most number (r ∷ rows) is.own) in
      subst (λ n. Reads ((before ++ round_text number true j) ++ entry_text true (next_position b.first b.entries) (made row reply))
      (stand (Some n) now (last_sealed open_batch sealed) notices)) (sym same)
      (goes_on before front (r ∷ rows) row done j (made row reply) number b now open_batch (last_sealed open_batch sealed) notices notices is
      (push_row settings roads vehicles judged before front (r ∷ rows) done j number b open_batch notices is row reply now sealed same below lawful free applied
      sealed_is))

  pub reads_row : (read : List ℕ) (s : Stand) (round : Option ℕ) (row : ScriptRow) (reply : Reply) (now : BookView) (sealed : Option Batch) → Reads read s →
      StandsIn s.last s.open_batch round row.round → IsBehind 0 row
      → (row.lane ≡ 0 → s.open_batch ≡ None) → IsApplied s.book row.lane row.command reply now → sealed ≡ snapshot_before s.book.wait s.book.state row.command
      → Reads (read ++ (start_text round ++ entry_text true (next_position s.book.first s.book.entries) (made row reply)))
      (stand (Some row.round) now (last_sealed s.open_batch sealed) s.notices)
  reads_row read s None row reply now sealed is stands lawful free applied sealed_is = row_same read s row reply now sealed is stands lawful free applied
      sealed_is
  reads_row read s (Some round) row reply now sealed is stands lawful free applied sealed_is =
      subst (λ n. Reads (read ++ (round_line n ++ entry_text true (next_position s.book.first s.book.entries) (made row reply)))
      (stand (Some row.round) now (last_sealed s.open_batch sealed) s.notices)) (sym stands.0)
      (row_new read s row reply now sealed stands.3 lawful (begins settings roads vehicles judged read s row.round is stands.3 stands.1) applied sealed_is)

  -- a close is read
  pub reads_close : (read : List ℕ) (last : Option ℕ) (b : BookView) (batch : Batch) (notices : List Notice) (outcome : Outcome) (reply : Reply)
      (now : BookView) (told : List Notice)
      → Reads read (stand last b (Some batch) notices) → IsApplied b 0 (Close batch.number outcome) reply now →
      told ≡ entry_notices b.state (Close batch.number outcome) Closed
      → (judged ≡ true → IsGoodOutcome settings roads batch outcome)
      → Reads (read ++ entry_text true (next_position b.first b.entries) (close_of batch outcome)) (stand last now None told)
  reads_close read last b batch notices outcome reply now told is applied told_is good = by read (stand last b (Some batch) notices) is refl
    where
      by : (text : List ℕ) (s : Stand) → Reads text s → s ≡ stand last b (Some batch) notices →
          Reads (text ++ entry_text true (next_position b.first b.entries) (close_of batch outcome)) (stand last now None told)
      by _ _ (IsReading.at_start c open_batch ns start) same = let no : None ≡ Some batch = sym start.closed ∙
          ap (λ (t : Stand). t.open_batch) same in absurd cc
      by _ _ (IsReading.in_round before front r rows done j number c open_batch ns in_round) same =
          let book : c ≡ b = ap (λ (t : Stand). t.book) same in
          let here : IsInRound settings roads vehicles judged before front (r ∷ rows) done j number b (Some batch) notices =
          subst (λ (t : Stand). IsInRound settings roads vehicles judged before front (r ∷ rows) done j number t.book t.open_batch t.notices) same
          in_round in
          let k : Journal = record j { entries = j.entries ++ close_of batch outcome ∷ [] } in
          subst (λ (t : Stand). Reads ((before ++ round_text number true j) ++ entry_text true (next_position b.first b.entries) (close_of batch outcome))
          (stand t.last now None told)) same
          (subst (λ t. Reads t (stand (Some number) now None told))
          (ap (λ t. before ++ t) (round_last number true j (close_of batch outcome) here.low ∙
          ap (λ q. round_text number true j ++ entry_text true q (close_of batch outcome)) (sym here.position))
          ∙ sym (append_assoc before (round_text number true j) (entry_text true (next_position b.first b.entries) (close_of batch outcome))))
          (IsReading.in_round before front r rows done k number now None told
          (push_close settings roads vehicles judged before front (r ∷ rows) done j number b batch notices here outcome reply now told applied told_is good)))
