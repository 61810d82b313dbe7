-- The statuses of the program.
use Rattle.std.specs.Prelude.{ℕ, List, [], codes}
use Rattle.hopf.specs.declared.status.Status.{Status}
use Rattle.hopf.specs.declared.status.Status.TheVariants.{Ok, Refused, Usage, ReadFault, WriteFault, Memory, InputLimit}

-- the exit status
abbrev pub code_of : Status → ℕ
code_of Ok = 0
code_of Refused = 1
code_of Usage = 2
code_of ReadFault = 3
code_of WriteFault = 4
code_of Memory = 5
code_of InputLimit = 6

-- the line on the error sink, with its line feed
abbrev pub status_line : Status → List ℕ
status_line Ok = []
status_line Refused = []
status_line Usage = codes "usage: hopf run\n"
status_line ReadFault = codes "hopf: read failed\n"
status_line WriteFault = codes "hopf: write failed\n"
status_line Memory = codes "hopf: out of memory\n"
status_line InputLimit = codes "hopf: input is too long\n"

-- the input was read to its end, and each statement was run
abbrev pub IsDone : Status → Type 0
IsDone Ok = Unit {0}
IsDone Refused = Unit {0}
IsDone Usage = ⊥
IsDone ReadFault = ⊥
IsDone WriteFault = ⊥
IsDone Memory = ⊥
IsDone InputLimit = ⊥

-- the run was cut off
abbrev pub IsStopped : Status → Type 0
IsStopped Ok = ⊥
IsStopped Refused = ⊥
IsStopped Usage = ⊥
IsStopped ReadFault = Unit {0}
IsStopped WriteFault = Unit {0}
IsStopped Memory = Unit {0}
IsStopped InputLimit = Unit {0}
