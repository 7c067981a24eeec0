-- Cited by the laws of this crate: a call that asks for nothing that is to be refused, and in which
-- nothing fails.
use Rattle.std.specs.Prelude.{◌≡◌, ℕ, List, Some}
use Rattle.std.specs.List.{AllByRecursion}
use Rattle.cert_text.specs.Rechecking.{Tells}
use Rattle.cert_text.specs.declared.fault.CertFault.TheVariants.{Refused}
use Rattle.cnf_core.specs.declared.certificates.Cert.{Cert}
use Rattle.cocoon_io.specs.Files.{Files}
use Rattle.cocoon_num.specs.Tree.{Design}
use Rattle.command_line.specs.Command.{Command}
use Rattle.command_answers.specs.Commands.{files_of}
use Rattle.command_answers.specs.Outcomes.{steps}
use Rattle.command_answers.specs.FolderCalls.{Counted}
use Rattle.command_answers.specs.Steps.{Inputs, IsGood, OfCertified, Step, certificates_accepted, certificates_within, generated, of_generated}
use Rattle.cocoon_cli.specs.Run.{Call, inputs_of}

-- No certificate is refused, and so each is accepted whose query is not too large.
abbrev pub NoneRefused : Design → List Cert → Type 0
NoneRefused d certs = (number : ℕ) → Tells d certs (Refused number) → ⊥

-- The step has nothing to refuse. The certificates that are written are what searches find: nothing is
-- said of how long they get. Of those that stand nothing is said of how large their queries are.
abbrev pub IsSound : Inputs → Step → Type 0
IsSound inputs certificates_within = Unit {0}
IsSound inputs (certificates_accepted out) = OfCertified inputs out NoneRefused
IsSound inputs (of_generated hosts s) = IsSound (generated hosts) s
IsSound inputs s = IsGood inputs s

-- The content of the folder is known, by it no step of the command has anything to refuse, and no
-- fault was counted. So of a `compile` the files are there, both texts read, the design keeps the
-- rules, the definitions fit it and meet its assumptions, each block keeps what it owes, and nothing is
-- over its limit. Of an `update` the certificates that stand show what the design owes, and the wires are
-- the old ones.
pub record Sound (c : Command) (call : Call) : Type 0 where
  pub files : Files
  pub known : call.content_before ≡ Some files
  pub sound : AllByRecursion (IsSound (inputs_of (files_of c) files)) (steps c)
  -- a count neither rose nor stands at its last value, at which one more fault is not seen
  pub no_read_failed : ¬ Counted call.reads
  pub no_write_failed : ¬ Counted call.writes
  pub no_put_failed : ¬ Counted call.puts
