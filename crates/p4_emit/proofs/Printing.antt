-- What is printed of statements, and of what may not be there.
use Rattle.std.proofs.Common.{◌≡◌, ℕ, ◌+◌, ◌<◌, ◌≤◌, List, ◌++◌, length, map, drop, get_or, Option, refl, ap, sym, subst, ◌∙◌, append_assoc}
use Rattle.std.specs.Prelude.{option_map, slice_get}
use Rattle.std.proofs.lemmas.Option.{slice_get-map, slice_get_past, slice_get_read}
use Rattle.p4_ir.specs.P4Tree.{Program}
use Rattle.p4_ir.specs.Program.{stmt_of, block_of}
use Rattle.p4_ir.specs.declared.program.P4Stmt.{P4Stmt}
use Rattle.text_lines.specs.Printing.{Prints}
pub use Rattle.text_lines.proofs.Printing.{followed, Leads, nothing, sets_out, walk_end, walk_step}
use Rattle.p4_emit.specs.Printed.{new_line, optional_text, stmt_text, block_text}

-- ---- what is there, or not

pub found_none : {A B : Type 0} (g : B → List ℕ) (v : A → B) (xs : List A) (i : ℕ) (a : Option (List ℕ)) → length xs ≤ i → Prints a (optional_text g (slice_get (map v xs) i)) a
found_none g v xs i a h = subst (λ o. Prints a (optional_text g o) a) (sym (slice_get-map v xs i ∙ ap (option_map v) (slice_get_past xs i h))) (nothing a)

pub found_some : {A B : Type 0} (g : B → List ℕ) (v : A → B) (xs : List A) (i : ℕ) (x : A) (a b : Option (List ℕ)) → i < length xs → x ≡ get_or xs i x → Prints a (g (v x)) b → Prints a (optional_text g (slice_get (map v xs) i)) b
found_some g v xs i x a b h e p = subst (λ o. Prints a (optional_text g o) b) (sym (slice_get-map v xs i ∙ ap (option_map v) (slice_get_read xs (length xs) i x refl h e))) p
