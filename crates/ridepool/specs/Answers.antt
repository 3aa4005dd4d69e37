-- What the answer of a call says, by its command.
use Rattle.std.specs.Prelude.{◌≡◌, MatchOption, ◌⊎◌}
use Rattle.pool_base.specs.declared.which.Which.{Which}
use Rattle.rider_limits.specs.Settings.{AreGiven}
use Rattle.rider_limits.specs.Words.{fault_of}
use Rattle.rider_limits.specs.declared.settings.Mode.{Mode}
use Rattle.rider_limits.specs.declared.settings.Mode.TheVariants.{Run, Drive, Load, Audit}
use Rattle.rider_limits.specs.declared.settings.Settings.{Settings}
use Rattle.ridepool.specs.Audit.{AnswersAudit}
use Rattle.ridepool.specs.Drive.{AnswersDrive}
use Rattle.ridepool.specs.Inputs.{AreUntouched, IsWithin}
use Rattle.ridepool.specs.Load.{AnswersLoad}
use Rattle.ridepool.specs.Run.{AnswersRun}
use Rattle.ridepool.specs.CallView.{IsSilent, CallView, source_at}
use Rattle.ridepool.specs.Status.{HidesNoMemory}
use Rattle.ridepool.specs.declared.status.RunStatus.{RunStatus}
use Rattle.ridepool.specs.declared.status.RunStatus.TheVariants.{Words, TooLong}

-- what a call of this command answers
abbrev pub AnswersAs : Mode → Settings → CallView → RunStatus → Type 0
AnswersAs Run = AnswersRun
AnswersAs Drive = AnswersDrive
AnswersAs (Load shape) = AnswersLoad shape
AnswersAs Audit = AnswersAudit

-- what a call's answer says
pub record Answers (seen : CallView) (status : RunStatus) : Type 0 where
  -- the words give settings, and the answer is one of their command; or they are refused, and nothing was done
  pub answered : MatchOption (fault_of seen.words)
      ((settings : Settings) × AreGiven seen.words settings × AnswersAs settings.mode settings seen status)
      (λ fault. (status ≡ Words fault) × AreUntouched seen.sources × IsSilent seen)
  -- no more bytes than may be were taken from each source, and one more only where it is answered as too long
  pub limited : (w : Which) → IsWithin w (source_at seen.sources w) ⊎ (status ≡ TooLong w)
  -- want of memory stands inside no other status
  pub refused : HidesNoMemory status
