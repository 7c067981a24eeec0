use Rattle.std.proofs.Common.{◌≡◌, ℕ, List, Option, codes, ap, sym, subst, ◌∙◌}
use Rattle.text_lines.specs.Printing.{Prints}
use Rattle.text_lines.proofs.Printing.{followed}
use Rattle.generator.specs.Definitions.{address, numbered, row_of}
use Rattle.generator.specs.declared.definitions.Table.{Table}
use Rattle.generator.proofs.definitions.Table.push_row.Goals as goal

-- a number that is printed is the one that is meant
meant : {a b : Option (List ℕ)} (before : List ℕ) {n m : ℕ} → n ≡ m → Prints a (numbered before n) b → Prints a (numbered before m) b
meant {a} {b} before e p = subst (λ k. Prints a (numbered before k) b) e p

-- the row of a table that is one of these
of : {a b : Option (List ℕ)} (hosts host : ℕ) {is table : Table} → is ≡ table → Prints a (row_of table hosts host) b
    → Prints a (row_of is hosts host) b
of {a} {b} hosts host e p = subst (λ t. Prints a (row_of t hosts host) b) (sym e) p

pub returns-in-Hosts : goal.returns-in-Hosts
returns-in-Hosts c = of _ _ c.in-Hosts.is (followed (meant (codes "define cHost(32w") c.address.ensures c.push_numbered.ensures) c.push.ensures)

pub returns-in-Access : goal.returns-in-Access
returns-in-Access c =
    of _ _ c.in-Access.is
    (followed (meant (codes "define acl(32w") c.address-in-Access.ensures c.push_numbered-in-Access.ensures)
    (followed (meant (codes ", 32w") (c.address-in-Access-2.ensures ∙ ap address c.next.ensures.next) c.push_numbered-in-Access-2.ensures) c.push-in-Access.ensures))

pub returns-in-SwitchOf : goal.returns-in-SwitchOf
returns-in-SwitchOf c =
    of _ _ c.in-SwitchOf.is (followed (meant (codes "define swOf(32w") c.address-in-SwitchOf.ensures c.push_numbered-in-SwitchOf.ensures) c.push-in-SwitchOf.ensures)

pub returns-in-PortOf : goal.returns-in-PortOf
returns-in-PortOf c =
    of _ _ c.in-PortOf.is
    (followed (meant (codes "define portOf(32w") c.address-in-PortOf.ensures c.push_numbered-in-PortOf.ensures)
    (followed c.push_numbered-in-PortOf-2.ensures c.push-in-PortOf.ensures))

pub returns-in-HostAt : goal.returns-in-HostAt
returns-in-HostAt c =
    of _ _ c.in-HostAt.is
    (followed c.push_numbered-in-HostAt.ensures
    (followed (meant (codes ") = 32w") c.address-in-HostAt.ensures c.push_numbered-in-HostAt-2.ensures) c.push-in-HostAt.ensures))
