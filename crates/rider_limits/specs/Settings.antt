use Rattle.std.specs.Prelude.{◌≡◌, ℕ, List, [], ◌∷◌, Option, Some, IsTrue, ◌↔◌, codes}
use Rattle.std.specs.Option.{option_map_or}
use Rattle.pool_base.specs.Number.{value_of}
use Rattle.rider_limits.specs.declared.subcommand.Subcommand.{Subcommand}
use Rattle.rider_limits.specs.declared.subcommand.Subcommand.TheVariants.{Run, Load, Drive, Audit}
use Rattle.rider_limits.specs.declared.key.Key.{Key}
use Rattle.rider_limits.specs.declared.key.Key.TheVariants.{Wait, Delay, Trip, Penalty, Budget, Pairs, Workers, Proof, Dwell, Times, Seed, Side, Vehicles, Riders, Rounds, Judge}
use Rattle.rider_limits.specs.declared.settings.Mode.{Mode}
use Rattle.rider_limits.specs.declared.settings.Mode.TheVariants.{Run as Running, Load as Loading, Drive as Driving, Audit as Auditing}
use Rattle.rider_limits.specs.declared.resume_words.ResumeWords.{ResumeWords}
use Rattle.rider_limits.specs.declared.settings.Settings.{Settings}
use Rattle.rider_limits.specs.declared.settings.TimesWay.TheVariants.{Labels}
use Rattle.rider_limits.specs.Key.{command_of, about}
use Rattle.rider_limits.specs.Words.{text_given}

-- the number that words give a key, or the key's own where none does
abbrev pub number_given : Key → List (List ℕ) → ℕ
number_given key words = option_map_or value_of (text_given (about key).name words) (about key).default_number

-- the mode is the command's, with the shape that the words give
abbrev pub IsModeGiven : Option Subcommand → List (List ℕ) → Mode → Type 0
IsModeGiven (Some Run) words Running = Unit {0}
IsModeGiven (Some Drive) words Driving = Unit {0}
IsModeGiven (Some Audit) words Auditing = Unit {0}
IsModeGiven (Some Load) words (Loading shape) =
    (shape.seed ≡ number_given Seed words) × (shape.side ≡ number_given Side words) × (shape.vehicles ≡ number_given Vehicles words)
    × (shape.riders ≡ number_given Riders words) × (shape.rounds ≡ number_given Rounds words)
IsModeGiven _ words _ = ⊥

-- the settings are those that a command and the words behind it give
pub record AreGivenBehind (command : Option Subcommand) (words : List (List ℕ)) (s : Settings) : Type 0 where
  pub mode : IsModeGiven command words s.mode
  pub wait : s.wait ≡ number_given Wait words
  pub delay : s.delay ≡ number_given Delay words
  pub trip : s.trip ≡ number_given Trip words
  pub penalty : s.penalty ≡ number_given Penalty words
  pub budget : s.budget ≡ number_given Budget words
  pub pairs : s.pairs ≡ number_given Pairs words
  pub workers : s.workers ≡ number_given Workers words
  pub proof : IsTrue s.proof ↔ (number_given Proof words ≡ 1)
  pub dwell : s.dwell ≡ number_given Dwell words
  pub times : (s.times ≡ Labels) ↔ (text_given (about Times).name words ≡ Some (codes "labels"))

-- the settings are those that words give, of which the first is the command
abbrev pub AreGiven : List (List ℕ) → Settings → Type 0
AreGiven [] s = ⊥
AreGiven (word ∷ words) s = AreGivenBehind (command_of word) words s

-- the words of `resume` say so, beside the names of its files
pub record AreResumed (words : List (List ℕ)) (r : ResumeWords) : Type 0 where
  pub workers : r.workers ≡ number_given Workers words
  pub times : (r.times ≡ Labels) ↔ (text_given (about Times).name words ≡ Some (codes "labels"))
  pub judge : IsTrue r.judge ↔ (number_given Judge words ≡ 1)

-- the same, of words of which the first is the command
abbrev pub AreResumedBy : List (List ℕ) → ResumeWords → Type 0
AreResumedBy [] r = ⊥
AreResumedBy (word ∷ words) r = AreResumed words r
