use Rattle.report_audit.specs.declared.lines.block_lines.BlockFault.{BlockFault}
use Rattle.report_audit.specs.declared.lines.block_lines.BlockFault.TheVariants as fault
use Rattle.report_audit.specs.declared.block.refusal.BlockRefusal.{BlockRefusal}
use Rattle.report_audit.specs.declared.block.refusal.BlockRefusal.TheVariants.{OutOfMemory, Cut, Form}

-- what is said of a text that begins with no block in form
abbrev pub refusal_for : BlockFault → BlockRefusal
refusal_for fault.OutOfMemory = OutOfMemory
refusal_for (fault.Cut n) = Cut n
refusal_for (fault.Form n) = Form n
