use Rattle.std.proofs.Common.{◌<◌, ◌^◌, false, map, ap}
use Rattle.p4_run.specs.Held.{held}
use Rattle.p4_run.specs.RegisterStates.{Suits}
use Rattle.p4_run.specs.Effects.{stmt_by, stmts_by}
use Rattle.p4_run.specs.Running.{program_in, rows_in}
use Rattle.p4_run.proofs.RunFacts.{Ends, ends}
use Rattle.p4_run.proofs.visits.run_egress.Goals as goal

pub returns-clause-fit : goal.returns-clause-fit
returns-clause-fit c =
    let l = c.args.loaded.now in
    let own : c.args.registers.now.own < 2 ^ 64 = c.requires.own in
    let suits : Suits (program_in l) false (held c.args.registers.now) = record { fields = c.requires.fit.fields; meta = c.requires.fit.meta; own = own } in
    let all : Ends (program_in l) (rows_in l).tables false c.args.registers.now c.run_all.new.registers =
    ends (program_in l) (rows_in l).tables false l.tables.items c.deref.result.now (stmts_by (map stmt_by l.egress.items)) (stmts_by (map stmt_by c.deref-2.result.now)) c.run_all.result
    c.args.registers.now c.run_all.new.registers l.egress_runs suits c.deref.ensures.value (ap (λ ss. stmts_by (map stmt_by ss)) c.deref-2.ensures.value) c.run_all.ensures in
    all.fit

pub returns-clause-left : goal.returns-clause-left
returns-clause-left c =
    let l = c.args.loaded.now in
    let own : c.args.registers.now.own < 2 ^ 64 = c.requires.own in
    let suits : Suits (program_in l) false (held c.args.registers.now) = record { fields = c.requires.fit.fields; meta = c.requires.fit.meta; own = own } in
    let all : Ends (program_in l) (rows_in l).tables false c.args.registers.now c.run_all.new.registers =
    ends (program_in l) (rows_in l).tables false l.tables.items c.deref.result.now (stmts_by (map stmt_by l.egress.items)) (stmts_by (map stmt_by c.deref-2.result.now)) c.run_all.result
    c.args.registers.now c.run_all.new.registers l.egress_runs suits c.deref.ensures.value (ap (λ ss. stmts_by (map stmt_by ss)) c.deref-2.ensures.value) c.run_all.ensures in
    all.left_is
