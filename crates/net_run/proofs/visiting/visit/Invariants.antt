use Rattle.std.proofs.Common.{◌≡◌, ◌++◌, drop, IfSome, map}
use Rattle.p4_ir.specs.Switch.{switch_go}
use Rattle.p4_run.specs.Frames.{Fits, left_in}
use Rattle.p4_run.specs.Running.{program_in, rows_in}
use Rattle.p4_run.specs.Visits.{ingress_left}
use Rattle.net_run.specs.DepartedOf.{departed_of}
use Rattle.net_run.specs.Departures.{departing, departures}
use Rattle.net_run.proofs.MemberSteps.{alone}
use Rattle.net_run.proofs.visiting.visit.Given as goal

abbrev pub invariant-loop-member : goal.invariant-loop-member
invariant-loop-member l = record {
  fits : Fits (program_in l.loaded) l.frame;
  left : IfSome (ingress_left (program_in l.loaded) (rows_in l.loaded) l.port l.bytes) (λ s. left_in l.loaded l.frame ≡ s);
  all : map departed_of l.all.items ++ departing (switch_go (program_in l.loaded) (rows_in l.loaded) 0 l.port l.bytes) (alone (drop l.member-index l.members))
      ≡ departures (program_in l.loaded) (rows_in l.loaded) l.port l.bytes;
}
