-- A row with a pattern of each form, as it is printed and read.
use Rattle.std.proofs.Common.{◌≡◌, ℕ, List, [], ◌∷◌, true, false, refl, subst, arith}
use Rattle.std.specs.Fmt.{digits}
use Rattle.std.specs.Prelude.{codes}
use Rattle.cocoon_num.specs.Reads.{ReadsDefs}
use Rattle.cocoon_num.specs.Tree.{Entry, a_default, a_row}
use Rattle.cocoon_num.specs.Values.{number, truth}
use Rattle.text_lines.specs.Printing.{each_text}
use Rattle.runtime_defs.specs.EntryTexts.{entry_text}
use Rattle.runtime_defs.specs.EntryPlaces.{entries_from, key_patterns}
use Rattle.runtime_defs.proofs.Derived.{entries_text_reads}

abbrev entries : List Entry
entries =
    a_default (record { at = 7; text = codes "acl" }) (truth true)
    ∷ a_row (record { at = 7; text = codes "acl" }) (key_patterns (16 ∷ 8 ∷ 8 ∷ []) (5 ∷ 0 ∷ 1 ∷ []) (65535 ∷ 0 ∷ 3 ∷ [])) (truth false)
    ∷ a_default (record { at = 30; text = codes "port" }) (number 16 0)
    ∷ []

abbrev text : List ℕ
text = codes "default acl = true;\ndefine acl(16w5, _, 8w1 &&& 8w3) = false;\ndefault port = 16w0;\n"

printed : each_text entry_text entries ≡ text
unfolding digits
printed = refl

read : ReadsDefs text (entries_from 0 entries)
read =
    subst (λ (t : List ℕ). ReadsDefs t (entries_from 0 entries)) printed
    (entries_text_reads entries (
      (refl, tt),
      (
        (refl, ((omega arith, omega arith, omega arith), (tt, (((omega arith, omega arith, omega arith), (omega arith, omega arith, omega arith)), tt))), tt),
        ((refl, (omega arith, omega arith, omega arith)), tt),
      ),
    ))
