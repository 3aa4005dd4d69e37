-- What is left from item to item, and of the whole text.
use Rattle.std.proofs.Common.{◌≡◌, ◌≢◌, ℕ, false, List, [], ◌++◌, take, drop, None, sym, ap, subst, ◌∙◌, append_assoc, take-append-drop}
use Rattle.report_audit.specs.declared.report.fault.AuditFault.{AuditFault}
use Rattle.report_audit.specs.declared.report.fault.AuditFault.TheVariants.{OutOfMemory}
use Rattle.report_past.proofs.RunLeftLemmas.{left_of}
use Rattle.report_past.proofs.WholeLeftLemmas.{ends_any, whole_ends}
use Rattle.report_past.specs.Past.{PastFails}
use Rattle.report_past.specs.Whole.{IsWholeText}
use Rattle.report_past.specs.work.Left.{EndsWhole, IsLeft, IsLeftAt, IsLeftNowhere, IsNotLeft, StaysLeft}
use Rattle.report_past.specs.work.Reading.{Stand, stand}
use Rattle.request_book.specs.Book.{BookView, next_position, opening}
use Rattle.request_book.specs.declared.notices.notice.Notice.{Notice}
use Rattle.request_book.specs.declared.values.vehicle.Vehicle.{Vehicle}
use Rattle.rider_limits.specs.declared.settings.Settings.{Settings}
use Rattle.road_network.specs.Roads.{Roads}

module _ (settings : Settings) (roads : Roads) (start now : Stand) (whole rest : List ℕ) (stays : StaysLeft settings roads start whole now rest) where
  pub stays_on : (next : Stand) (text after : List ℕ) → rest ≡ text → StaysLeft settings roads now text next after
      → StaysLeft settings roads start whole next after
  stays_on next text after is further more ends left =
      let here = stays more ends left in
      further more (subst EndsWhole is here.1) (subst (λ t. IsLeftAt settings roads now (t ++ more)) is here.0)

  pub refused_on : (text : List ℕ) → rest ≡ text → IsNotLeft settings roads now text → IsNotLeft settings roads start whole
  refused_on text is none more ends left =
      let here = stays more ends left in
      none more (subst EndsWhole is here.1) (subst (λ t. IsLeftAt settings roads now (t ++ more)) is here.0)

  pub refused_first : IsLeftNowhere rest → IsNotLeft settings roads start whole
  refused_first none more ends left =
      let here = stays more ends left in
      none settings roads now.last now.book.state (next_position now.book.first now.book.entries) more here.1 here.0

pub stays_here : (settings : Settings) (roads : Roads) (s : Stand) (text : List ℕ) → StaysLeft settings roads s text s text
stays_here settings roads s text more ends left = (left, ends)

pub past_fails : (settings : Settings) (roads : Roads) (vehicles : List Vehicle) (text whole : List ℕ) (size : ℕ) (b : BookView) (notices : List Notice)
    (fault : AuditFault) → whole ≡ take size text → IsWholeText (take size text) → b ≡ record
    { nodes = roads.nodes; wait = settings.wait; first = 0; base = opening vehicles; entries = []; state = opening vehicles; spare = 0 }
    → (fault ≢ OutOfMemory → IsNotLeft settings roads (stand None b None notices) whole) → PastFails settings roads vehicles text fault
past_fails settings roads vehicles text whole size b notices fault whole_is is_whole is none fails m =
    let behind = drop size text ++ m.rest in
    let parts : text ++ m.rest ≡ whole ++ behind =
    ap (λ t. t ++ m.rest) (sym (take-append-drop size text)) ∙ append_assoc (take size text) (drop size text) m.rest ∙ ap (λ t. t ++ behind) (sym whole_is) in
    let left = subst (IsLeft settings roads None (opening vehicles) 0) parts (left_of settings roads vehicles text m) in
    none fails behind (ends_any false whole (whole_ends whole (subst IsWholeText (sym whole_is) is_whole)))
    (subst (λ (k : BookView). IsLeft settings roads None k.state (next_position k.first k.entries) (whole ++ behind)) (sym is) left)
