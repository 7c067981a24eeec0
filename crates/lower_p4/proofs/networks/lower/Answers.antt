use Rattle.std.proofs.Common.{◌≡◌, Err, IfErr, Ok, Result, subst, sym}
use Rattle.std.specs.Result.{IsErrAnd}
use Rattle.cocoon_num.specs.Tree.{DefsText, Design}
use Rattle.cocoon_syntax.specs.TreeOf.{design_of}
use Rattle.shared_net.specs.Shared.{shared_of}
use Rattle.lower_net.specs.declared.networks.LowerFault.{LowerFault}
use Rattle.lower_net.specs.declared.networks.LowerFault.TheVariants.{Limit, LongProgram, ManyRows, NoMemory}
use Rattle.runtime_defs.specs.Places.{Places}
use Rattle.lower_p4.specs.Grounds.{Grounds}
use Rattle.lower_p4.specs.Lowering.{HasNoNetwork, NotLowered}
use Rattle.lower_p4.specs.Lowers.{Lowers}
use Rattle.lower_p4.specs.OfText.{AreOfText}
use Rattle.lower_p4.proofs.LongFiles.{no_network, texts_fit}
use Rattle.lower_p4.proofs.networks.lower.Goals as goal
use Rattle.lower_p4.proofs.networks.lower.Goals.{After-know_sizes}

-- what is known where a network is made
grounds : (c : After-know_sizes) (text : DefsText) → AreOfText (design_of c.args.checked.now) text c.args.defs.now → Grounds (design_of c.args.checked.now) text c.args.defs.now
grounds c text of = record {
  read = c.know_reading.ensures.read;
  words = c.know_reading.ensures.spelled;
  rules = c.design.ensures.resolves.rules;
  literals = c.code_literals_fit.ensures.designs c.args.checked.now;
  fits = c.requires;
  of_text = of;
}

pub returns-clause-lowering : goal.returns-clause-lowering
returns-clause-lowering c = λ text of. record {
  exact = c.networks_deliver.ensures (design_of c.args.checked.now) text c.args.defs.now (shared_of c.in_ok-net.net) (grounds c text of) c.in_ok-net.ensures.network;
  programs = c.switches_run_programs.ensures (design_of c.args.checked.now) c.args.defs.now (shared_of c.in_ok-net.net) c.in_ok-net.ensures.network;
  writable = c.networks_are_writable.ensures (design_of c.args.checked.now) text c.args.defs.now (shared_of c.in_ok-net.net) (grounds c text of) c.in_ok-net.ensures.network c.in_ok-net.ensures.within c.know_ports.ensures c.know_sizes.ensures;
}

pub returns-clause-lowers : goal.returns-clause-lowers
unfolding Lowers
returns-clause-lowers c = λ text of. (c.args.defs.now, of, c.in_ok-net.ensures.network)

-- what is said of the tables is said of each text that has them
not_lowered : (d : Design) (text : DefsText) (places : Places) → AreOfText d text places → (fault : LowerFault) → HasNoNetwork d places fault → NotLowered d text fault
unfolding Lowers
not_lowered d text places of (Limit limit count) told = (places, of, told)
not_lowered d text places of (LongProgram switch) told = record { net = told.0; lowers = (places, of, told.1); within = (places, of, told.2); starts = told.3 }
not_lowered d text places of (ManyRows switch) told = record { net = told.0; lowers = (places, of, told.1); within = (places, of, told.2); starts = told.3 }
not_lowered d text places of NoMemory told = tt

pub returns-clause-short : goal.returns-clause-short
returns-clause-short c = texts_fit (design_of c.args.checked.now) c.args.defs.now (shared_of c.in_ok-net.net) c.in_ok-judge.ensures.fits c.in_ok-net.ensures.network

-- ---- why there is none

passed : {A : Type 0} (P : LowerFault → Type 0) (r : Result A LowerFault) (fault : LowerFault) → IsErrAnd r (λ e. e ≡ fault) → P fault → IfErr r P
passed P (Ok x) fault is h = tt
passed P (Err e) fault is h = subst P (sym is) h

pub returns-in_err-judge-clause-refused : goal.returns-in_err-judge-clause-refused
returns-in_err-judge-clause-refused c =
    passed _ _ c.in_err-judge.field-0.0 c.from_residual.ensures.1
    (λ text of. not_lowered (design_of c.args.checked.now) text c.args.defs.now of c.in_err-judge.field-0.0 c.in_err-judge.ensures.over)

pub returns-in_err-net-clause-over : goal.returns-in_err-net-clause-over
returns-in_err-net-clause-over c =
    passed _ _ c.in_err-net.field-0.0 c.from_residual-in_err-net.ensures.1
    (no_network c.large_programs_are_long.ensures (design_of c.args.checked.now) c.args.defs.now c.in_ok-judge.ensures.fits c.in_err-net.field-0.0 c.in_err-net.ensures.refused)

pub returns-in_err-net-clause-refused : goal.returns-in_err-net-clause-refused
returns-in_err-net-clause-refused c =
    let d = design_of c.args.checked.now in
    let fault = c.in_err-net.field-0.0 in
    passed _ _ fault c.from_residual-in_err-net.ensures.1
    (λ text of. not_lowered d text c.args.defs.now of fault (no_network c.large_programs_are_long.ensures d c.args.defs.now c.in_ok-judge.ensures.fits fault c.in_err-net.ensures.refused))
