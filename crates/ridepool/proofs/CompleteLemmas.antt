-- Where nothing is wrong, a call is done or out of memory, or a day comes too late.
use Rattle.std.proofs.Common.{◌≡◌, ℕ, ◌<◌, List, Option, Some, None, Result, Ok, Err, length, refl, subst, inl, inr, ⊎_elim, arith, ◌⊎◌, IfSome}
use Rattle.ridepool.proofs.Common.{
  Which,
  Settings,
  Roads,
  day_fault,
  DayRound,
  EndsAudit,
  IsRightReport,
  EndsDrive,
  Inputs,
  AreReadFrom,
  TellInputs,
  CameTo,
  HasNoWriteFault,
  Reads,
  IsSourceTooLong,
  IsStop,
  Tells,
  most_bytes,
  network_in,
  vehicles_in,
  script_in,
  EndsText,
  Change,
  SourceView,
  Sources,
  CallView,
  source_at,
  RunStatus,
  Done,
  Network,
  Fleet,
  Script,
  TooLong,
  ReadFault,
  OutOfMemory,
  TooLate,
  Report,
  IsNoReport,
}
use Rattle.pool_base.specs.declared.which.Which.TheVariants as file

-- what holds of the bytes that a source tells
of_told : (o : Option (List ℕ)) (bytes : List ℕ) (P : List ℕ → Type 0) → o ≡ Some bytes → IfSome o P → P bytes
of_told o bytes P told h = (let Q : Option (List ℕ) → Type 0 = λ x. IfSome x P in subst Q told h)

-- what holds of the bytes that were read of a source holds of those that it tells
pub read_of : {w : Which} (s : Change SourceView) (text : List ℕ) (P : List ℕ → Type 0) → Tells w s text → Reads w s P → P text
read_of s text P tells r = subst P (of_told s.before.left text (λ left. r.bytes ≡ left) tells.told r.told) r.holds

-- no source that tells few bytes is too long
pub not_long : (w : Which) (s : Change SourceView) (text : List ℕ) → Tells w s text → IsSourceTooLong w s → ⊥
not_long w s text tells why = omega (arith, tells.short, of_told s.before.left text (λ left. most_bytes w < length left) tells.told why.told)

pub ok_is_no_err : {A E : Type 0} (r : Result A E) (x : A) (e : E) → r ≡ Ok x → r ≡ Err e → ⊥
ok_is_no_err r x e well wrong = cc (well, wrong)

pub same_value : {A E : Type 0} (r : Result A E) (x y : A) → r ≡ Ok x → r ≡ Ok y → x ≡ y
same_value r x y p q = cc (p, q)

-- each source that a call comes to tells some bytes
tells_at : (s : Sources) (i : Inputs) → TellInputs s i → (w : Which) → CameTo s w → (text : List ℕ) × Tells w (source_at s w) text
tells_at s i told file.Network came = (told.network_text, told.network)
tells_at s i told file.Fleet came = (told.fleet_text, told.fleet)
tells_at s i told file.Script came = (told.script_text, told.script)
tells_at s i told file.Report came = absurd came

-- sources that tell inputs stop a call for want of memory alone
pub stops : (s : Sources) (i : Inputs) (e : RunStatus) → TellInputs s i → IsStop s e → e ≡ OutOfMemory
stops s i OutOfMemory told why = refl
stops s i (Network fault) told why =
    absurd (ok_is_no_err (network_in told.network_text) i.roads fault told.roads (read_of s.network told.network_text (λ b. network_in b ≡ Err fault)
    told.network why.1))
stops s i (Fleet fault) told why =
    let roads = why.0.0 in
    let same : roads ≡ i.roads = same_value (network_in told.network_text) roads i.roads (read_of s.network told.network_text (λ b. network_in b ≡ Ok roads)
    told.network why.0.1) told.roads in
    let refused = read_of s.fleet told.fleet_text (λ b. vehicles_in roads.nodes b ≡ Err fault) told.fleet why.1 in
    let P : Roads → Type 0 = λ r. vehicles_in r.nodes told.fleet_text ≡ Err fault in
    absurd (ok_is_no_err (vehicles_in i.roads.nodes told.fleet_text) told.vehicles.vehicles fault told.vehicles.read (subst P same refused))
stops s i (Script fault) told why =
    absurd (ok_is_no_err (script_in told.script_text) i.rounds fault told.rounds (read_of s.script told.script_text (λ b. script_in b ≡ Err fault) told.script
    why.1))
stops s i (TooLong w) told why = let t = tells_at s i told w why.0 in absurd (not_long w (source_at s w) t.0 t.1 why.1)
stops s i (ReadFault w) told why = let t = tells_at s i told w why.0 in absurd (t.1.faultless why.2)
stops s i _ told why = absurd why

-- a call that writes a text is done or out of memory where no write fails
module _ (settings : Settings) (roads : Roads) (added : DayRound → List ℕ) (head : List ℕ) (P : List DayRound → Type 0) (Q : List DayRound → List ℕ → Type 0)
  where
    pub text_ends : (seen : CallView) (e : RunStatus) → HasNoWriteFault seen → EndsText settings roads added head P Q seen e → (e ≡ Done) ⊎ (e ≡ OutOfMemory)
    text_ends seen _ whole (EndsText.written w) = inl refl
    text_ends seen _ whole (EndsText.failed rose short) = absurd (whole rose)
    text_ends seen _ whole (EndsText.unstored part) = inr refl

pub none_is_no_some : {A : Type 0} (o : Option A) (x : A) → o ≡ None → o ≡ Some x → ⊥
none_is_no_some o x none some = cc (none, some)

-- so is a day, or it comes too late
pub day_ends : (seen : CallView) (i j : Inputs) (e : RunStatus) → TellInputs seen.sources i → AreReadFrom seen.sources j → day_fault i.rounds ≡ None →
    HasNoWriteFault seen → EndsDrive j seen e
    → (e ≡ Done) ⊎ (e ≡ OutOfMemory) ⊎ ((round : ℕ) × (e ≡ TooLate round))
day_ends seen i j _ told read day whole (EndsDrive.driven e is_day ends) = ⊎_elim (λ done. inl done) (λ lacks. inr (inl lacks))
    (text_ends _ _ _ _ _ _ seen e whole ends)
day_ends seen i j _ told read day whole (EndsDrive.no_day fault why silent) =
    let same : j.rounds ≡ i.rounds =
    same_value (script_in told.script_text) j.rounds i.rounds (read_of seen.sources.script told.script_text (λ b. script_in b ≡ Ok j.rounds) told.script
    read.script) told.rounds in
    absurd (none_is_no_some (day_fault i.rounds) fault day (subst (λ rs. day_fault rs ≡ Some fault) same why))
day_ends seen i j _ told read day whole (EndsDrive.too_late round made is_day late silent) = inr (inr (round, refl))

-- and an audit, where its report is right
pub audit_ends : (seen : CallView) (j : Inputs) (bytes : List ℕ) (e : RunStatus) → Tells file.Report seen.sources.report bytes → IsRightReport j bytes →
    HasNoWriteFault seen → EndsAudit j seen e
    → (e ≡ Done) ⊎ (e ≡ OutOfMemory)
audit_ends seen j bytes _ tells right whole (EndsAudit.confirmed line) = inl refl
audit_ends seen j bytes _ tells right whole (EndsAudit.failed line rose) = absurd (whole rose)
audit_ends seen j bytes _ tells right whole (EndsAudit.unstored line) = inr refl
audit_ends seen j bytes _ tells right whole (EndsAudit.refused fault read silent) =
    let no : IsNoReport j bytes fault = read_of seen.sources.report bytes (λ b. IsNoReport j b fault) tells read in
    absurd (no.1 right)
audit_ends seen j bytes _ tells right whole (EndsAudit.too_long why silent) = absurd (not_long file.Report seen.sources.report bytes tells why)
audit_ends seen j bytes _ tells right whole (EndsAudit.unread within rose silent) = absurd (tells.faultless rose)
audit_ends seen j bytes _ tells right whole (EndsAudit.unjudged within silent) = inr refl
