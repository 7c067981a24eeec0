use Rattle.std.proofs.Common.{length, ◌-◌}
use Rattle.p4_parse.proofs.ProgramPhrases.{HeadersSoFar}
use Rattle.p4_parse.proofs.program.headers.Given as goal

abbrev pub invariant-headers : goal.invariant-headers
invariant-headers l = record { is : HeadersSoFar l.source l.pos l.headers.items l.next }

abbrev pub decreases-headers : goal.decreases-headers
decreases-headers l = length l.source - l.next
