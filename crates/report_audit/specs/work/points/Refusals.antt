use Rattle.bound_checker.specs.declared.fault.CheckFault.{CheckFault}
use Rattle.bound_checker.specs.declared.fault.CheckFault.TheVariants.{BadBranch, BadLeaf, BadDead, Unfinished, Extra, OutOfMemory}

-- the fault is the tree's, and not want of memory
abbrev pub IsRefusal : CheckFault → Type 0
IsRefusal OutOfMemory = ⊥
IsRefusal (BadBranch i) = Unit {0}
IsRefusal (BadLeaf i) = Unit {0}
IsRefusal (BadDead i) = Unit {0}
IsRefusal Unfinished = Unit {0}
IsRefusal (Extra i) = Unit {0}
