use Rattle.report_audit.proofs.lines.CommandLemmas.{party_is, party_is_one, party_made}
use Rattle.report_audit.proofs.lines.command.party_first.Goals as goal

pub returns-in-Some : goal.returns-in-Some
returns-in-Some c =
    λ party reply some few e.
    party_made _ c.new.result party some few (party_is party reply some few e c.in-Some.ensures) c.new.ensures.valid c.new.ensures.value c.unwrap_or.ensures

pub returns-in-None : goal.returns-in-None
returns-in-None c = λ party reply some few e. party_is_one party reply some few e c.in-None.ensures
