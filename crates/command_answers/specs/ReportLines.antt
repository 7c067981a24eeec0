-- Cited by the clauses of the commands and of answer.rt, and through Outcomes.antt by `keeps` of `run`. The
-- reports of commands that succeed, and of searches that are given up. It follows "Reports" in docs/FORMATS.md.
use Rattle.std.specs.Prelude.{ℕ, ◌-◌, List, ◌++◌, length, Option, Some, None, codes, decimal}
use Rattle.p4_ir.specs.NetTree.{NetData}
use Rattle.step_cases.specs.declared.sent.Sent.{Sent}
use Rattle.command_reports.specs.Report.{list_text}
use Rattle.command_answers.specs.declared.compile.Totals.{Totals}

-- that of a design with so many levels whose obligations hold
abbrev pub checked_line : (levels obligations : ℕ) → List ℕ
checked_line levels obligations =
    codes "ok levels " ++ (decimal levels ++ (codes " obligations " ++ (decimal obligations
    ++ codes "\n")))

-- how many switches, hosts and links a network has, whose design has so many obligations
abbrev pub totals_of : (obligations : ℕ) → NetData → Totals
totals_of obligations net = record {
  switches = length net.switches;
  hosts = length net.hosts;
  links = length net.links;
  obligations = obligations;
}

-- that of a network, behind what was done with it
abbrev pub totals_line : (done : List ℕ) → Totals → List ℕ
totals_line done t =
    done ++ (codes " switches " ++ (decimal t.switches ++ (codes " hosts " ++ (decimal t.hosts
    ++ (codes " links " ++ (decimal t.links ++ (codes " obligations " ++ (decimal t.obligations
    ++ codes "\n"))))))))

-- that of a network that was compiled
abbrev pub compiled_line : Totals → List ℕ
compiled_line t = totals_line (codes "compiled") t

-- that of one that was updated
abbrev pub updated_line : Totals → List ℕ
updated_line t = totals_line (codes "updated") t

-- that of a network that was generated for so many hosts: how many of its packets were delivered, and how many not
abbrev pub generated_line : (hosts packets delivered : ℕ) → List ℕ
generated_line hosts packets delivered =
    codes "gen hosts " ++ (decimal hosts ++ (codes " packets " ++ (decimal packets
    ++ (codes " delivered " ++ (decimal delivered ++ (codes " dropped "
    ++ (decimal (packets - delivered) ++ codes "\n")))))))

-- that of a search on which conflicts were spent: the most of one search, and what it was about, by its kind and number
abbrev pub budget_line : (conflicts : ℕ) → (kind : List ℕ) → (number : ℕ) → List ℕ
budget_line conflicts kind number =
    codes "budget conflicts " ++ (decimal conflicts ++ (codes " " ++ (kind ++ (codes " "
    ++ (decimal number ++ codes "\n")))))

-- that of an obligation on which rounds were spent, and how many
abbrev pub rounds_line : (rounds number : ℕ) → List ℕ
rounds_line rounds number =
    codes "budget rounds " ++ (decimal rounds ++ (codes " obligation " ++ (decimal number
    ++ codes "\n")))

-- ROLE VALUES : FIELDS
abbrev pub sent_line : Sent → List ℕ
sent_line s = s.role ++ (list_text s.values ++ (codes " :" ++ (list_text s.fields ++ codes "\n")))

-- what a body does with a packet: it sends it, or nothing is sent
abbrev pub sent_text : Option Sent → List ℕ
sent_text None = codes "nothing\n"
sent_text (Some sent) = sent_line sent
