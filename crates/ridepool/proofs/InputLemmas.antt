-- What is said of the inputs of a call, from what the readers say of sources and of made texts.
use Rattle.std.proofs.Common.{◌≡◌, ℕ, List, Some, None, Result, Ok, Err, refl, sym, ap, subst, ◌∙◌, inl, inr, IfOk, IfErr}
use Rattle.ridepool.proofs.Common.{
  Vehicle,
  texts_of,
  Which,
  Input,
  LoadShape,
  Run,
  Load,
  Drive,
  Audit,
  Settings,
  Roads,
  day_fault,
  DayFault,
  NumberedLanes,
  HidesNoMemory,
  AreUntouched,
  CameTo,
  IsStop,
  AreTexts,
  own_fault,
  in_rows,
  first_version,
  network_in,
  vehicles_in,
  IsFleetIn,
  script_in,
  Change,
  SourceView,
  Sources,
  source_at,
  ReadInputs,
  RunStatus,
  Network,
  Fleet,
  Script,
  OutOfMemory,
  Day,
  AreInputs,
  IsUnread,
  StopsAt,
  ReadSources,
  IsNoInput,
  GotInputs,
  inputs_got,
}
use Rattle.input_rows.specs.fleet.Fleet.{vehicles_of}
use Rattle.input_rows.specs.made.Accepted.{IsNetworkText, IsFleetText, IsScriptText, AreRead as TextsAreRead}
use Rattle.road_network.specs.Reading.{network_of}
use Rattle.pool_base.specs.declared.which.Which.TheVariants as file

-- a text that is read as a network, a fleet, a script
network_made : (text : List ℕ) (roads : Roads) → IsNetworkText text roads → network_in text ≡ Ok roads
unfolding network_in
network_made text roads is = ap (λ r. in_rows r (λ t. network_of t.records)) is.rows ∙ ap (λ r. own_fault r) is.is

vehicles_made : (nodes text : List ℕ) (fleet : List Vehicle) → (is : IsFleetText nodes text fleet) → vehicles_in nodes text ≡ Ok is.is.vehicles
unfolding vehicles_in
vehicles_made nodes text fleet is = ap (λ r. in_rows r (λ t. vehicles_of nodes t.records)) is.rows ∙ ap (λ r. own_fault r) is.is.read

fleet_made : (nodes text : List ℕ) (fleet : List Vehicle) → IsFleetText nodes text fleet → IsFleetIn nodes text fleet
fleet_made nodes text fleet is = record { vehicles = is.is.vehicles; read = vehicles_made nodes text fleet is; rising = is.is.rising; members = is.is.members }

script_made : (text : List ℕ) (rounds : List NumberedLanes) → IsScriptText text rounds → script_in text ≡ Ok rounds
unfolding script_in
script_made text rounds is = ap (λ r. first_version text r) is.rows ∙ ap (λ r. own_fault r) is.is

-- why a source stopped a run, by the source
unread_stops : (s : Sources) (w : Which) (e : RunStatus) → CameTo s w → IsUnread (source_at s w) w e → IsStop s e
unread_stops s w _ came (IsUnread.long why) = (came, why)
unread_stops s w _ came (IsUnread.failed within rose) = (came, within, rose)
unread_stops s w _ came (IsUnread.memory within) = (w, came, within)

pub network_stop : (s : Sources) (e : RunStatus) → CameTo s file.Network → StopsAt s.network file.Network Network network_in e → IsStop s e
network_stop s _ came (StopsAt.unread e why) = unread_stops s file.Network e came why
network_stop s _ came (StopsAt.refused fault reads hides) = (came, reads)

pub fleet_stop : (s : Sources) (e : RunStatus) → (came : CameTo s file.Fleet) → StopsAt s.fleet file.Fleet Fleet (vehicles_in came.0.nodes) e → IsStop s e
fleet_stop s _ came (StopsAt.unread e why) = unread_stops s file.Fleet e came why
fleet_stop s _ came (StopsAt.refused fault reads hides) = (came, reads)

pub script_stop : (s : Sources) (e : RunStatus) → CameTo s file.Script → StopsAt s.script file.Script Script script_in e → IsStop s e
script_stop s _ came (StopsAt.unread e why) = unread_stops s file.Script e came why
script_stop s _ came (StopsAt.refused fault reads hides) = (came, reads)

-- no stop at a source hides want of memory
pub stop_hides : {A F : Type 0} (s : Change SourceView) (w : Which) (refusal : Input F → RunStatus) (read : List ℕ → Result A (Input F)) (e : RunStatus)
    → StopsAt s w refusal read e → HidesNoMemory e
stop_hides s w refusal read _ (StopsAt.unread _ (IsUnread.long why)) = tt
stop_hides s w refusal read _ (StopsAt.unread _ (IsUnread.failed within rose)) = tt
stop_hides s w refusal read _ (StopsAt.unread _ (IsUnread.memory within)) = tt
stop_hides s w refusal read _ (StopsAt.refused fault reads hides) = hides

-- what came of the inputs of a run, of an audit, and of a day
pub got_run : (settings : Settings) (s : Sources) (r : Result ReadInputs RunStatus) → settings.mode ≡ Run → ReadSources s r → GotInputs settings s r
got_run settings s (Ok got) is read =
    record { inputs = subst (λ m. AreInputs m s (inputs_got settings got)) (sym is) (read.inputs settings, tt); refused = tt }
got_run settings s (Err e) is read = record { inputs = subst (λ m. IsNoInput m s e) (sym is) read.inputs; refused = read.refused }

pub got_audit : (settings : Settings) (s : Sources) (r : Result ReadInputs RunStatus) → settings.mode ≡ Audit → ReadSources s r → GotInputs settings s r
got_audit settings s (Ok got) is read =
    record { inputs = subst (λ m. AreInputs m s (inputs_got settings got)) (sym is) (read.inputs settings, tt); refused = tt }
got_audit settings s (Err e) is read = record { inputs = subst (λ m. IsNoInput m s e) (sym is) read.inputs; refused = read.refused }

pub got_day : (settings : Settings) (s : Sources) (got : ReadInputs) → settings.mode ≡ Drive → ReadSources s (Ok got) → day_fault got.script ≡ None →
    GotInputs settings s (Ok got)
got_day settings s got is read day =
    record { inputs = subst (λ m. AreInputs m s (inputs_got settings got)) (sym is) (read.inputs settings, day); refused = tt }

pub got_no_day : (settings : Settings) (s : Sources) (got : ReadInputs) (fault : DayFault) → settings.mode ≡ Drive → ReadSources s (Ok got) →
    day_fault got.script ≡ Some fault
    → GotInputs settings s (Err (Day fault))
got_no_day settings s got fault is read refused =
    record { inputs = subst (λ m. IsNoInput m s (Day fault)) (sym is) (inr (fault, refl, (_, read.inputs settings, refused))); refused = tt }

pub got_stop : (settings : Settings) (s : Sources) (e : RunStatus) → settings.mode ≡ Drive → ReadSources s (Err e) → GotInputs settings s (Err e)
got_stop settings s e is read = record { inputs = subst (λ m. IsNoInput m s e) (sym is) (inl read.inputs); refused = read.refused }

-- what came of a made workload's
pub got_made : (settings : Settings) (s : Sources) (shape : LoadShape) (r : Result ReadInputs RunStatus) → settings.mode ≡ Load shape → AreUntouched s
    → IfOk r (λ got. TextsAreRead (texts_of shape) got.network got.fleet got.script) → IfErr r (λ e. e ≡ OutOfMemory) → GotInputs settings s r
got_made settings s shape (Ok got) is untouched read none =
    let texts : AreTexts (texts_of shape) (inputs_got settings got) = record {
      network = network_made (texts_of shape).network got.network read.network;
      fleet = fleet_made got.network.nodes (texts_of shape).fleet got.fleet read.fleet;
      script = script_made (texts_of shape).script got.script read.script;
    } in
    record { inputs = subst (λ m. AreInputs m s (inputs_got settings got)) (sym is) (texts, untouched); refused = tt }
got_made settings s shape (Err e) is untouched read none =
    record { inputs = subst (λ m. IsNoInput m s e) (sym is) (untouched, none); refused = subst HidesNoMemory (sym none) tt }
