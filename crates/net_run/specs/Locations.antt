-- Cited by the private clauses of `finding`: the switch and the port of a link, by which links ascend.
use Rattle.std.specs.Prelude.{ℕ}
use Rattle.p4_ir.specs.declared.network.Link.{Link}

abbrev pub location_of : Link → ℕ × ℕ
location_of l = (l.switch, l.port)
