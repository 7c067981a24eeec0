-- A control: its tables, and its statements.
use Rattle.std.proofs.Common.{◌≡◌, ℕ, ◌+◌, Bool, List, [], ◌∷◌, ◌++◌, length, codes, refl, ap, ◌∙◌, arith}
use Rattle.cocoon_num.specs.Tokens.{a_name, mark}
use Rattle.p4_ir.specs.P4Text.{said}
use Rattle.p4_texts.specs.KindFaults.{Piece, block_pieces, control_pieces, fixed, stands_in, table_pieces}
use Rattle.p4_texts.specs.Written.{ControlText, ProgramText, TableText}
use Rattle.p4_resolve.specs.Controls.{action_names, table_numbers}
use Rattle.p4_resolve.specs.Judged.{Passes, Rest, StopsBy, index}
use Rattle.p4_resolve.specs.declared.fault.KindFault.{KindFault}
use Rattle.p4_resolve.proofs.PieceFacts.{all_passed, one_stopped, passed, started}

abbrev pub head : List ℕ → Piece
head begin = fixed (a_name (codes "apply") ∷ mark (codes "{") ∷ said begin)

abbrev pub braces : Piece
braces = fixed (mark (codes "}") ∷ mark (codes "}") ∷ [])

abbrev pub tables_of : ProgramText → List TableText → ControlText → List Piece
tables_of t done c = table_pieces t (action_names done) (table_numbers t done) c.tables

abbrev pub inside : ProgramText → Bool → ControlText → List Piece
inside t b c = block_pieces t (stands_in t b c) c.body

begun : (t : ProgramText) (done : List TableText) (b : Bool) (begin : List ℕ) (c : ControlText) (at mid first : ℕ) → Passes at (tables_of t done c) mid → first ≡ index (mid + (2 + length (said begin))) → Rest at (control_pieces t done b begin c) first (inside t b c ++ (braces ∷ []))
begun t done b begin c at mid first p e =
    passed at (control_pieces t done b begin c) mid first (head begin) (inside t b c ++ (braces ∷ []))
    (all_passed at (control_pieces t done b begin c) at mid (tables_of t done c) (head begin ∷ (inside t b c ++ (braces ∷ []))) (started at (control_pieces t done b begin c)) p) refl (e ∙ ap (λ n. index (mid + n)) (omega arith))

pub control_passes : (t : ProgramText) (done : List TableText) (b : Bool) (begin : List ℕ) (c : ControlText) (at mid first last end : ℕ) → Passes at (tables_of t done c) mid → first ≡ index (mid + (2 + length (said begin))) → Passes first (inside t b c) last → end ≡ index (last + 2)
    → Passes at (control_pieces t done b begin c) end
control_passes t done b begin c at mid first last end p e q f =
    passed at (control_pieces t done b begin c) last end braces [] (all_passed at (control_pieces t done b begin c) first last (inside t b c) (braces ∷ []) (begun t done b begin c at mid first p e) q) refl f

pub tables_stop : (t : ProgramText) (done : List TableText) (b : Bool) (begin : List ℕ) (c : ControlText) (at : ℕ) (fault : KindFault) → StopsBy at (tables_of t done c) fault → StopsBy at (control_pieces t done b begin c) fault
tables_stop t done b begin c at fault s =
    one_stopped at (control_pieces t done b begin c) at (tables_of t done c) (head begin ∷ (inside t b c ++ (braces ∷ []))) fault (started at (control_pieces t done b begin c)) s

pub body_stops : (t : ProgramText) (done : List TableText) (b : Bool) (begin : List ℕ) (c : ControlText) (at mid first : ℕ) (fault : KindFault) → Passes at (tables_of t done c) mid → first ≡ index (mid + (2 + length (said begin))) → StopsBy first (inside t b c) fault → StopsBy at (control_pieces t done b begin c) fault
body_stops t done b begin c at mid first fault p e s =
    one_stopped at (control_pieces t done b begin c) first (inside t b c) (braces ∷ []) fault (begun t done b begin c at mid first p e) s
