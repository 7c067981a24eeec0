-- Cited by the clauses of evaluating, of resolving and of runs: what registers hold.
use Rattle.std.specs.Prelude.{ℕ, List}
use Rattle.p4_run.specs.declared.registers.Registers.{Registers}

pub record Held : Type 0 where
  -- the fields of all headers, one header after another
  pub fields : List ℕ
  pub meta : List ℕ
  pub verdict : ℕ
  pub egress_port : ℕ
  pub group : ℕ
  -- the port, or the member of the group
  pub own : ℕ

abbrev pub held : Registers → Held
held r = record {
  fields = r.fields.items;
  meta = r.meta.items;
  verdict = r.verdict;
  egress_port = r.egress_port;
  group = r.group;
  own = r.own;
}
